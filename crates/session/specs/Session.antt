-- A plan played (document 01, "The rehearsal"): every good party is opened in the session of the plan's number (document 02, No. 6), with its book or, where
-- there is one, by the sender (document 02, No. 5), and taken through its steps, on what the other good parties wrote and on what the plan says that bad ones
-- send. The hash of the tree is a parameter H. Assumes nothing.
use Rattle.std.specs.Prelude.{Bool, true, false, cond, not, ◌&&◌, ◌||◌, List, [], ◌∷◌, ◌++◌, ℕ, zero, suc, ◌+◌, ◌-◌, ◌*◌, ltb, eqb, length, take, replicate}
use Rattle.std.proofs.Math.Option.{Option, none, some}
use Rattle.limits.specs.Limits.{max_message}
use Rattle.buffer.specs.Entries.{bodies}
use Rattle.buffer.specs.Given.{Given, gave, written}
use Rattle.buffer.specs.Given.{Refused}
use Rattle.merkle.specs.Shares.{same}
use Rattle.party.specs.State.{Result, nothing, settled}
use Rattle.packet.specs.Message.{max_message_packet}
use Rattle.party.specs.Steps.{open_of, Stepped, agree_root_of, agree_bit_of, take_shares_of, take_relays_of}
use Rattle.party.specs.Sender.{message_by, Begun, open_by_sender_of}
use Rattle.party.specs.Answer.{Answer}
use Rattle.party.specs.Answer.{Refused, Short, Happy, Sent, Nothing, Message}
use Rattle.party.specs.Answer.{Opened}
pub use Rattle.commitment.specs.Rooms.{max_outbox}
use Rattle.agreement.specs.Calls.{Call, agree_root, agree_bit, take_shares, take_relays, lengths}
use Rattle.agreement.specs.Agreement.{Good}
use Rattle.agreement.specs.Broadcast.{Opener}
use Rattle.bitmap.specs.Bitmap.{names}
use Rattle.plan.specs.Layout.{party_entry, unnamed, lowest, n_in, t_in, has_root, has_bit, has_sender, root_in, bit_in, sender_in, session_of, good_in, books_in}
use Rattle.plan.specs.Layout.{good_sender, holders, sender_packet, exchange_in}
use Rattle.plan.specs.Plan.{plan_cause}
use Rattle.exchange.specs.Exchange.{inbox_to}
use Rattle.report.specs.Output.{line, sent_line, refused_line}

-- what a step wrote for others, as much as its answer says; nothing where it was refused, which no step of a plan without a cause is (`Played`)
abbrev pub sent_length : Answer → ℕ
sent_length (Refused k) = 0
sent_length (Short l) = 0
sent_length (Happy b) = 0
sent_length (Sent l) = l
sent_length (Nothing f) = 0
sent_length (Message l f) = 0

abbrev pub wrote_in : Stepped → List ℕ
wrote_in r = take (sent_length r.answer) r.buffer

abbrev pub or_nothing : Option Result → Result
or_nothing none = nothing
or_nothing (some r) = r

-- party p's line, with its result
abbrev pub line_with : ℕ → Result → List ℕ
line_with p nothing = line p false []
line_with p (settled m) = line p true m

-- in the plan s: party p is good; its book, no bytes where none is listed; and the lowest-numbered good party
abbrev pub is_good : List ℕ → ℕ → Bool
is_good s p = names (good_in s) p

unfoldable pub book_of : List ℕ → ℕ → List ℕ
book_of s p = party_entry (n_in s) (holders s) p (books_in s)

-- of k parties from p on, what f says of each good one
unfoldable pub each_good : {A : Type 0} → List ℕ → (ℕ → A) → ℕ → ℕ → List A
each_good s f zero p = []
each_good s f (suc k) p = cond (is_good s p) (f p ∷ each_good s f k (p + 1)) (each_good s f k (p + 1))

abbrev pub lowest_good : List ℕ → ℕ
lowest_good s = lowest (n_in s) 1 (good_in s)

-- in exchange 0 parties send packets of their outboxes, and in exchange 1 all that they wrote, their relays
abbrev pub whole_in : ℕ → Bool
whole_in e = not (eqb e 0)

module _ (H : List ℕ → List ℕ) (s : List ℕ) where
  -- where there is a sender: party p's opening, handed these bytes; and the packet that the sender wrote in its own, handed its book (only of a good one
  -- is it used)
  unfoldable pub opened_by_sender : ℕ → List ℕ → Begun
  opened_by_sender p bs = open_by_sender_of H (session_of s) (n_in s) (t_in s) p (sender_in s) bs (replicate max_message_packet 0)

  unfoldable pub sender_wrote : List ℕ
  sender_wrote = let r = opened_by_sender (sender_in s) (book_of s (sender_in s)) in take r.value r.buffer

  -- what is handed to party p: to the sender its book, to another one what a good sender wrote, or what the plan says that a bad one sends
  unfoldable pub handed_to : ℕ → List ℕ
  handed_to p = cond (eqb p (sender_in s)) (book_of s p) (cond (good_sender s) sender_wrote (sender_packet p s))

  -- step 1, by the sender or with the own book; the message that party p opens with; and the agreed root: the given one, or that of the lowest-numbered
  -- good party
  unfoldable pub opened : ℕ → Opened
  opened p = cond (has_sender s) (opened_by_sender p (handed_to p)).opened (open_of H (session_of s) (n_in s) (t_in s) p (book_of s p))

  unfoldable pub message_of : ℕ → List ℕ
  message_of p = cond (has_sender s) (message_by p (sender_in s) (handed_to p)) (book_of s p)

  unfoldable pub agreed_root : List ℕ
  agreed_root = cond (has_root s) (root_in s) (opened (lowest_good s)).root

  -- step 2, and the agreed bit
  unfoldable pub step2 : ℕ → Stepped
  step2 p = agree_root_of H (opened p).state agreed_root

  unfoldable pub agreed_bit : ℕ
  agreed_bit = cond (has_bit s) (bit_in s) (step2 (lowest_good s)).value

  -- the rule of the short agreement: of k parties from p on, all good ones have this root, or this bit
  unfoldable pub same_roots : ℕ → ℕ → List ℕ → Bool
  same_roots zero p w = true
  same_roots (suc k) p w = cond (is_good s p) (same (opened p).root w) true && same_roots k (p + 1) w

  unfoldable pub same_bits : ℕ → ℕ → ℕ → Bool
  same_bits zero p b = true
  same_bits (suc k) p b = cond (is_good s p) (eqb (step2 p).value b) true && same_bits k (p + 1) b

  -- cause 14: over t bad parties, a bit above 1, or, where all good parties put in one root, or one bit, another one than that
  unfoldable pub unlawful : Bool
  unlawful =
      ltb (t_in s) (unnamed (n_in s) 1 (good_in s)) || (has_bit s && ltb 1 (bit_in s))
      || (same_roots (n_in s) 1 (opened (lowest_good s)).root && not (same agreed_root (opened (lowest_good s)).root))
      || (same_bits (n_in s) 1 (step2 (lowest_good s)).value && not (eqb agreed_bit (step2 (lowest_good s)).value))

  unfoldable pub session_cause : ℕ
  session_cause = cond (not (eqb (plan_cause s) 0)) (plan_cause s) (cond unlawful 14 0)

  -- step 3, and the first inbox
  unfoldable pub step3 : ℕ → Stepped
  step3 p = agree_bit_of H (step2 p).state agreed_bit (replicate max_outbox 0)

  -- party i's inbox of exchange e, where parties wrote these
  abbrev pub inbox_in : ℕ → (ℕ → List ℕ) → ℕ → List ℕ
  inbox_in e wrote i = inbox_to (n_in s) (good_in s) (whole_in e) wrote (exchange_in e s) i

  unfoldable pub first_inbox : ℕ → List ℕ
  first_inbox i = inbox_in 0 (λ p. wrote_in (step3 p)) i

  -- step 4, and the second inbox
  unfoldable pub step4 : ℕ → Stepped
  step4 p = take_shares_of H (step3 p).state (first_inbox p) (replicate max_outbox 0)

  unfoldable pub second_inbox : ℕ → List ℕ
  second_inbox i = inbox_in 1 (λ p. wrote_in (step4 p)) i

  -- step 5
  unfoldable pub step5 : ℕ → Stepped
  step5 p = take_relays_of H (step4 p).state (second_inbox p) (replicate max_message 0)

  -- on bit 0 the exchanges are unused
  unfoldable pub ends_with : ℕ → Result
  ends_with p = cond (eqb agreed_bit 0) nothing (or_nothing (step5 p).result)

  -- the packet that party p gives to each other one, if it is the sender; the bytes that it sent from step 3 on, its packets and its relay to the n - 1 others;
  -- and all that it sent
  abbrev pub given_by : ℕ → List ℕ
  given_by p = cond (has_sender s && eqb p (sender_in s)) sender_wrote []

  unfoldable pub sent_later : ℕ → ℕ
  sent_later p =
      lengths (bodies (n_in s) (wrote_in (step3 p))) + cond (eqb agreed_bit 0) 0 ((n_in s - 1) * length (wrote_in (step4 p)))

  unfoldable pub sent_of : ℕ → ℕ
  sent_of p = (n_in s - 1) * length (given_by p) + sent_later p

  -- of k parties from p on, the good ones' lines, and what they sent
  unfoldable pub lines_from : ℕ → ℕ → List ℕ
  lines_from zero p = []
  lines_from (suc k) p = cond (is_good s p) (line_with p (ends_with p)) [] ++ lines_from k (p + 1)

  unfoldable pub sent_from : ℕ → ℕ → ℕ
  sent_from zero p = 0
  sent_from (suc k) p = cond (is_good s p) (sent_of p) 0 + sent_from k (p + 1)

  unfoldable pub output : List ℕ
  output = lines_from (n_in s) 1 ++ sent_line (sent_from (n_in s) 1)

  -- the plan's output in a lent buffer: turned away for a cause, or written; cause 9 where the buffer is shorter
  unfoldable pub rehearse_of : List ℕ → Given
  rehearse_of out = cond (not (eqb session_cause 0)) (gave (Refused session_cause) out) (written output out)

  -- what a rehearsal prints: the output, or the one line of a plan that is refused
  unfoldable pub printed : List ℕ
  printed = cond (not (eqb session_cause 0)) (refused_line session_cause) output

  unfoldable pub print_of : List ℕ → Given
  print_of out = written printed out

  -- the good parties of the session, with the calls that a rehearsal makes of them
  unfoldable pub calls_of : ℕ → List Call
  calls_of p =
      agree_root agreed_root ∷ agree_bit agreed_bit (replicate max_outbox 0)
      ∷ cond (eqb agreed_bit 0) []
      (take_shares (first_inbox p) (replicate max_outbox 0) ∷ take_relays (second_inbox p) (replicate max_message 0) ∷ [])

  abbrev pub good_party : ℕ → Good
  good_party p = record { own = p; message = message_of p; calls = calls_of p }

  abbrev pub good_parties : List Good
  good_parties = each_good s good_party (n_in s) 1

  -- the same where there is a sender, with what their openings were handed and lent
  abbrev pub opener : ℕ → Opener
  opener p =
      record { own = p; sender = sender_in s; bytes = handed_to p; out = replicate max_message_packet 0; calls = calls_of p }

  abbrev pub openers : List Opener
  openers = each_good s opener (n_in s) 1
