-- What the private functions of a rehearsal suppose. No public contract cites this file. Assumes nothing.
use Rattle.std.specs.Prelude.{◌≡◌, Bool, true, false, cond, not, ◌&&◌, List, [], ℕ, ◌+◌, ◌*◌, ◌≤◌, ◌<◌, ltb, eqb, length, get_or, Some, None, unwrap_or, Result, Ok, Err}
use denote.Ref.{Bor}
use Rattle.std.specs.declared.option.Option.{Option}
use Rattle.limits.specs.Limits.{max_parties, max_message}
use Rattle.sha256.specs.Sha256.{sha256}
use Rattle.cause.specs.declared.Cause.{Cause}
use Rattle.cause.specs.declared.Refusal.{Refusal}
use Rattle.merkle.specs.Shares.{blank, same}
use Rattle.party.specs.Steps.{Stepped}
use Rattle.party.specs.declared.Begun.{Begun}
use Rattle.party.specs.declared.Party.{Party}
use Rattle.party.specs.Answer.{Answer, Opened}
use Rattle.party.specs.Answer.{Refused, Short, Happy, Sent, Nothing, Message}
use Rattle.plan.specs.Layout.{unnamed, n_in, t_in, good_in, has_bit, bit_in}
use Rattle.exchange.specs.Exchange.{Slots, max_inbox}
use Rattle.report.specs.Output.{line}
use Rattle.session.specs.Session.{is_good, lowest_good, max_outbox, wrote_in, opened, agreed_root, agreed_bit, same_roots, same_bits, step2, step3, step4}
use Rattle.session.specs.declared.Opening.{Opening}
use Rattle.session.specs.declared.Outgoing.{Outgoing}
use Rattle.session.specs.declared.Exchange.{Exchange}
use Rattle.session.specs.declared.Exchange.TheVariants.{Outboxes, Relays}
use Rattle.session.specs.declared.Step.{Step}
use Rattle.session.specs.declared.Step.TheVariants.{Outbox, Relay}

-- room for any inbox of an exchange
abbrev pub inbox_room : ℕ
inbox_room = max_inbox max_parties max_outbox

-- room for any line, and for any output: a line for each party, and the last one
abbrev pub max_line : ℕ
max_line = 24 + 2 * max_message

abbrev pub max_text : ℕ
max_text = (max_parties + 1) * max_line

-- an exchange's number in a plan
abbrev pub number_of : Exchange → ℕ
number_of Outboxes = 0
number_of Relays = 1

-- the good parties from place `low` up to `high` are in the states that f says
abbrev pub States : List ℕ → (ℕ → Party) → ℕ → ℕ → List Party → Type 0
States s f low high states = (d : Party) (j : ℕ) → low ≤ j → j < high → is_good s (j + 1) ≡ true → get_or states j d ≡ f (j + 1)

-- the slots hold what f says that the good parties wrote
abbrev pub Wrote : List ℕ → (ℕ → List ℕ) → Outgoing → Type 0
Wrote s f sent = Slots (good_in s) max_outbox f (n_in s) sent.slots sent.lens

-- the outboxes of all good parties
abbrev pub Dealt : List ℕ → Outgoing → Type 0
Dealt s boxes = Wrote s (λ p. wrote_in (step3 sha256 s p)) boxes

-- the step in which party p writes for an exchange, its state before that, and what lies in the slots then
abbrev pub step_for : Step → List ℕ → ℕ → Stepped
step_for Outbox s p = step3 sha256 s p
step_for (Relay boxes) s p = step4 sha256 s p

abbrev pub state_for : Step → List ℕ → ℕ → Party
state_for Outbox s p = (step2 sha256 s p).state
state_for (Relay boxes) s p = (step3 sha256 s p).state

abbrev pub Behind : List ℕ → Step → Type 0
Behind s Outbox = Unit {0}
Behind s (Relay boxes) = Dealt s boxes.now

-- a round after j turns: the first j parties' slots hold what the good ones wrote, these are after their step, and the others before it
pub record Turn (s : List ℕ) (step : Step) (j : ℕ) (list : List Party) (sent : Outgoing) : Type 0 where
  pub wrote : Slots (good_in s) max_outbox (λ p. wrote_in (step_for step s p)) j sent.slots sent.lens
  pub moved : States s (λ p. (step_for step s p).state) 0 j list
  pub waiting : States s (state_for step s) j (n_in s) list

-- their relays, and their states then; on bit 0 there are none
pub record Relayed (s : List ℕ) (relays : Outgoing) (list : List Party) : Type 0 where
  pub slots : (agreed_bit sha256 s ≡ 0 → ⊥) → Wrote s (λ p. wrote_in (step4 sha256 s p)) relays
  pub states : (agreed_bit sha256 s ≡ 0 → ⊥) → States s (λ p. (step4 sha256 s p).state) 0 (n_in s) list

-- the lengths of the relays, without them
abbrev pub Sizes : List ℕ → Outgoing → Type 0
Sizes s relays =
    (j : ℕ) → j < n_in s → is_good s (j + 1) ≡ true
    → (get_or relays.lens j 0 ≤ max_outbox)
    × (get_or relays.lens j 0 ≡ cond (eqb (agreed_bit sha256 s) 0) 0 (length (wrote_in (step4 sha256 s (j + 1)))))

-- good party q before step 5, with the relays; on bit 0 it has ended
pub record Finishing (s : List ℕ) (relays : Outgoing) (state : Party) (q : ℕ) : Type 0 where
  pub low : 1 ≤ q
  pub high : q ≤ n_in s
  pub slots : (agreed_bit sha256 s ≡ 0 → ⊥) → Wrote s (λ p. wrote_in (step4 sha256 s p)) relays
  pub state-is : (agreed_bit sha256 s ≡ 0 → ⊥) → state ≡ (step4 sha256 s q).state

-- a party after step 1, and its root
abbrev pub opening_of : Opened → Opening
opening_of x = record { state = x.state; root = x.root }

abbrev pub root_begun : Result Begun (Refusal Cause) → List ℕ
root_begun (Ok b) = b.root
root_begun (Err e) = blank

-- the line of party p with its message, or with nothing
abbrev pub line_for : ℕ → Option (Bor (List ℕ)) → List ℕ
line_for p None = line p false []
line_for p (Some m) = line p true m.now

-- the length of the message with which a party ended; none, or 0, where it ended with nothing
abbrev pub message_in : Answer → Option ℕ
message_in (Refused k) = None
message_in (Short l) = None
message_in (Happy b) = None
message_in (Sent l) = None
message_in (Nothing f) = None
message_in (Message l f) = Some l

abbrev pub message_length : Answer → ℕ
message_length a = unwrap_or (message_in a) 0

-- the bit that a party gave; 0 where it gave none
abbrev pub own_bit : Answer → ℕ
own_bit (Refused k) = 0
own_bit (Short l) = 0
own_bit (Happy b) = cond b 1 0
own_bit (Sent l) = 0
own_bit (Nothing f) = 0
own_bit (Message l f) = 0

-- the rule of the short agreement, by its four tests
module _ (s : List ℕ) where
  abbrev pub many_bad : Bool
  many_bad = ltb (t_in s) (unnamed (n_in s) 1 (good_in s))

  abbrev pub no_bit : Bool
  no_bit = has_bit s && ltb 1 (bit_in s)

module _ (H : List ℕ → List ℕ) (s : List ℕ) where
  -- the root and the bit that the lowest-numbered good party put in
  abbrev pub first_root : List ℕ
  first_root = (opened H s (lowest_good s)).root

  abbrev pub first_bit : ℕ
  first_bit = (step2 H s (lowest_good s)).value

  abbrev pub other_root : Bool
  other_root = same_roots H s (n_in s) 1 first_root && not (same (agreed_root H s) first_root)

  abbrev pub other_bit : Bool
  other_bit = same_bits H s (n_in s) 1 first_bit && not (eqb (agreed_bit H s) first_bit)
