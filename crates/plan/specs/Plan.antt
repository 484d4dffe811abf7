-- A plan read: its causes, in document 01's order for a plan, and its parts. The rule of the short agreement (cause 14) is judged with the
-- parties' roots and bits, not here. Assumes nothing.
use Rattle.std.specs.Prelude.{◌≡◌, Option, Some, None, Result, Ok, Err, cond, not, ◌&&◌, ◌||◌, List, ℕ, ◌+◌, ◌-◌, ltb, eqb, length, drop}
use Rattle.limits.specs.Limits.{max_plan, parties, numbered, group_cause}
use Rattle.buffer.specs.Given.{Given, gave, written}
use Rattle.buffer.specs.Given.{Refused}
use Rattle.plan.specs.Layout.{map_width, member, party_entry, books_fit, block_entry, packet_from, or_empty, n_in, t_in, options_in, has_sender, sender_in, session_of}
use Rattle.plan.specs.Layout.{good_at, good_in, books_in, holders, behind_books, skip_exchanges, exchange_at, laid_out}
use Rattle.plan.specs.declared.Plan as declared
use Rattle.cause.specs.Cause.{number}
use Rattle.cause.specs.declared.Cause.{Cause}

-- A plan read: document 01's number of the cause for which it is refused, 0 if it is taken; and its parts, all 0 if it is refused. The sender is 0 if
-- the plan names none.
pub record Plan : Type 0 where
  pub cause : ℕ
  pub n : ℕ
  pub t : ℕ
  pub options : ℕ
  pub sender : ℕ
  pub session : ℕ
  pub good : ℕ
  pub holders : ℕ
  pub books : ℕ
  pub packets : ℕ
  pub exchanges : ℕ

-- 13 if under two bytes, then 1, 2, then 13 (over the greatest length, or badly laid out), then 3 for a sender that is none of the n parties, then 4; 0: none
unfoldable pub plan_cause : List ℕ → ℕ
plan_cause s =
    cond (ltb (length s) 2) 13
    (cond (not (eqb (group_cause (n_in s) (t_in s)) 0)) (group_cause (n_in s) (t_in s))
    (cond (ltb max_plan (length s) || not (laid_out s)) 13
    (cond (has_sender s && not (numbered (n_in s) (sender_in s))) 3
    (cond (not (books_fit (n_in s) (holders s) (books_in s))) 4
    0))))

-- nothing is told of a plan that is refused
abbrev pub refused : ℕ → Plan
refused k =
    record { cause = k; n = 0; t = 0; options = 0; sender = 0; session = 0; good = 0; holders = 0; books = 0; packets = 0; exchanges = 0 }

-- the parts and the answer that the code gives; a sender's number is not 0 (`SenderIs`)
abbrev pub sender_number : Option ℕ → ℕ
sender_number None = 0
sender_number (Some q) = q

abbrev pub parts_said : declared.Plan → Plan
parts_said x =
    record {
      cause = 0;
      n = x.n;
      t = x.t;
      options = x.options;
      sender = sender_number x.sender;
      session = x.session;
      good = x.good;
      holders = x.holders;
      books = x.books;
      packets = x.packets;
      exchanges = x.exchanges;
    }

abbrev pub plan_said : Result declared.Plan Cause → Plan
plan_said (Ok x) = parts_said x
plan_said (Err c) = refused (number c)

-- the parts name a sender just if the plan does: 0 is no sender's number
abbrev pub SenderIs : Result declared.Plan Cause → List ℕ → Type 0
SenderIs (Ok x) s = x.sender ≡ cond (has_sender s) (Some (sender_in s)) None
SenderIs (Err c) s = Unit {0}

-- the parts; the books, what stands behind them and the exchanges by where they start
abbrev pub parts_of : List ℕ → Plan
parts_of s =
    record {
      cause = 0;
      n = n_in s;
      t = t_in s;
      options = options_in s;
      sender = cond (has_sender s) (sender_in s) 0;
      session = session_of s;
      good = good_in s;
      holders = holders s;
      books = good_at s + map_width;
      packets = length s - length (behind_books s);
      exchanges = exchange_at 0 s;
    }

unfoldable pub plan_of : List ℕ → Plan
plan_of s = cond (not (eqb (plan_cause s) 0)) (refused (plan_cause s)) (parts_of s)

-- the offset of exchange e of a plan with these parts, counted from 0; the end, if one before it is not in order
unfoldable pub exchange_of : Plan → ℕ → List ℕ → ℕ
exchange_of x e s = length s - length (or_empty (skip_exchanges e x.n x.good (drop x.exchanges s)))

-- party q's book among the books s of those that a map names, in a lent buffer: cause 1, 3 where q is none of n parties or has no book, then 9
unfoldable pub book_given : ℕ → ℕ → ℕ → List ℕ → List ℕ → Given
book_given n map q s out =
    cond (not (parties n)) (gave (Refused 1) out)
    (cond (not (member n map q)) (gave (Refused 3) out)
    (written (party_entry n map q s) out))

-- what bad party q sends to party i in the exchange that starts with s, in a lent buffer: cause 1, then 9
unfoldable pub packet_given : ℕ → ℕ → ℕ → ℕ → List ℕ → List ℕ → Given
packet_given n g q i s out = cond (not (parties n)) (gave (Refused 1) out) (written (packet_from n g q i s) out)

-- what a bad sender sends to party i in the block that starts with s, in a lent buffer: cause 1, then 9
unfoldable pub block_given : ℕ → ℕ → List ℕ → List ℕ → Given
block_given n i s out = cond (not (parties n)) (gave (Refused 1) out) (written (block_entry n i s) out)
