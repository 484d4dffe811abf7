-- The outcomes of the opening and of steps 2 to 5, for any hash: a refusal with the lowest cause, or what the step gives where none
-- applies, by whether the party is happy. What is sent goes by the answer of the writer, and what ends by the room for the message. By
-- the tests of the definitions. Assumes nothing.
use mathlib.Core.Path.{◌≡◌, refl, ap, subst, ◌∙◌}
use mathlib.Core.Bool.{Bool, true, false, cond, true≢false}
use mathlib.Core.List.{List, []}
use mathlib.Core.Option.{none, some, none-ne-some, some-ne-none}
use Prim.Native.Nat.{ℕ, ◌<◌, ◌≤◌}
use native.Mathlib.Omega.{arith}
use borrow.Author.Tests.{lt-ltb, le-ltb, eq-eqb, ne_eqb}
use lib.Dec.{ltb, eqb}
use lib.ListN.{length}
use Rattle.buffer.specs.Splice.{spliced}
use Rattle.std.specs.Prelude.{Result as Answered, Ok, Err}
use Rattle.cause.specs.declared.Cause.{Cause}
use Rattle.cause.specs.declared.Refusal.{Refusal}
use Rattle.cause.specs.declared.Refusal.TheVariants as refusal
use Rattle.buffer.specs.Given.{Given, Written, said, gave, written}
use Rattle.buffer.specs.Given as goal
use Rattle.buffer.proofs.Splice.{spliced-none}
use Rattle.merkle.specs.Shares.{blank}
use Rattle.commitment.specs.Rebuild.{under_root}
use Rattle.party.specs.State.{seat_of, Result, nothing, settled, message_in, at_root, at_first, at_second, at_end, blank_state, message_root, happy}
use Rattle.party.specs.State.{result_from, result_at, result_in, has_ended}
use Rattle.party.specs.Steps.{turn_of, open_cause, open_of, root_cause, with_root, agree_root_of, bit_cause, Stepped, gives, refused, stepped, writes, outbox_of}
use Rattle.party.specs.Steps.{agree_bit_of, inbox_cause, faulty_shares, taken_by, share_taken, packet_taken, own_relay, relay_of, held_of, take_shares_of}
use Rattle.party.specs.Steps.{rebuilt, recovered_by, relays_cause, faulty_relays, result_found, result_of, faulty_of, ending, take_relays_of}
use Rattle.party.specs.Private.{after}
use Rattle.party.specs.declared.Stage.{Stage}
use Rattle.party.specs.declared.Stage.TheVariants.{Root, Bit, First, Second, Ended}
use Rattle.party.specs.declared.Party.{Party}
use Rattle.party.specs.Answer as answer

-- a party holds a result exactly if it has ended, and then step 5 is in turn
module _ (x : Party) where
  pub holds-none : has_ended x.stage ≡ false → result_in x ≡ none
  holds-none = go x.stage
    where
      go : (s : Stage) → has_ended s ≡ false → result_at s x.message ≡ none
      go Root h = refl
      go Bit h = refl
      go First h = refl
      go Second h = refl
      go (Ended o) h = absurd (true≢false h)

  pub holds-ended : (r : Result) → result_in x ≡ some r → (has_ended x.stage ≡ true) × (turn_of x.stage ≡ 5)
  holds-ended r = go x.stage
    where
      go : (s : Stage) → result_at s x.message ≡ some r → (has_ended s ≡ true) × (turn_of s ≡ 5)
      go Root h = absurd (none-ne-some r h)
      go Bit h = absurd (none-ne-some r h)
      go First h = absurd (none-ne-some r h)
      go Second h = absurd (none-ne-some r h)
      go (Ended o) h = (refl, refl)

  pub holds_not : result_in x ≡ none → has_ended x.stage ≡ false
  holds_not = go x.stage
    where
      go : (s : Stage) → result_at s x.message ≡ none → has_ended s ≡ false
      go Root h = refl
      go Bit h = refl
      go First h = refl
      go Second h = refl
      go (Ended o) h = absurd (some-ne-none (result_from o x.message) h)

module _ (H : List ℕ → List ℕ) where
  -- step 1, the opening
  module _ (session n t own : ℕ) (m : List ℕ) where
    pub open-refused : (open_cause n t own (length m) ≡ 0 → ⊥)
        → open_of H session n t own m ≡ record { state = blank_state; cause = open_cause n t own (length m); root = blank }
    unfolding open_of
    open-refused h = rw (ne_eqb (open_cause n t own (length m)) 0 h)

    pub open-given : open_cause n t own (length m) ≡ 0
        → open_of H session n t own m ≡ record { state = at_root (seat_of session n t own) m; cause = 0; root = message_root H session n t m }
    unfolding open_of
    open-given h = rw (eq-eqb (open_cause n t own (length m)) 0 h)

  -- step 2, the agreed root
  module _ (x : Party) (z : List ℕ) where
    pub root-refused : (root_cause x z ≡ 0 → ⊥) → agree_root_of H x z ≡ refused x (root_cause x z) []
    unfolding agree_root_of
    root-refused h = rw (ne_eqb (root_cause x z) 0 h)

    pub root-given : root_cause x z ≡ 0 → agree_root_of H x z ≡ gives (with_root x z) (answer.Happy (happy H (with_root x z))) []
    unfolding agree_root_of
    root-given h = rw (eq-eqb (root_cause x z) 0 h)

  -- step 3, the agreed bit
  module _ (x : Party) (bit : ℕ) (out : List ℕ) where
    pub bit-refused : (bit_cause x bit ≡ 0 → ⊥) → agree_bit_of H x bit out ≡ refused x (bit_cause x bit) out
    unfolding agree_bit_of
    bit-refused h = rw (ne_eqb (bit_cause x bit) 0 h)

    module _ (fine : bit_cause x bit ≡ 0) where
      bit-given : agree_bit_of H x bit out
          ≡ writes x (cond (eqb bit 0) (at_end x.seat nothing 0) (at_first x.seat (message_in x) x.root))
          (outbox_of H x bit) out
      unfolding agree_bit_of
      bit-given = rw (eq-eqb (bit_cause x bit) 0 fine)

      abbrev Sent : ℕ → Party → Type 0
      Sent b y = agree_bit_of H x bit out ≡ writes x y (outbox_of H x b) out

      pub bit-end : bit ≡ 0 → agree_bit_of H x bit out ≡ writes x (at_end x.seat nothing 0) (outbox_of H x 0) out
      bit-end e =
          subst (λ (b : ℕ). Sent b (cond (eqb b 0) (at_end x.seat nothing 0)
          (at_first x.seat (message_in x) x.root))) e bit-given

      pub bit-first : bit ≡ 1
          → agree_bit_of H x bit out ≡ writes x (at_first x.seat (message_in x) x.root) (outbox_of H x 1) out
      bit-first e =
          subst (λ (b : ℕ). Sent b (cond (eqb b 0) (at_end x.seat nothing 0)
          (at_first x.seat (message_in x) x.root))) e bit-given

  -- step 4, the first inbox
  module _ (x : Party) (inbox out : List ℕ) where
    pub shares-refused : (inbox_cause 4 x inbox ≡ 0 → ⊥) → take_shares_of H x inbox out ≡ refused x (inbox_cause 4 x inbox) out
    unfolding take_shares_of
    shares-refused h = rw (ne_eqb (inbox_cause 4 x inbox) 0 h)

    module _ (fine : inbox_cause 4 x inbox ≡ 0) where
      pub shares-happy : happy H x ≡ true
          → take_shares_of H x inbox out ≡ writes x (at_second x.seat (message_in x) x.root [] (faulty_shares H x inbox)) (own_relay H x) out
      unfolding take_shares_of relay_of held_of
      shares-happy h = rw (eq-eqb (inbox_cause 4 x inbox) 0 fine, h)

      pub shares-taken : happy H x ≡ false → take_shares_of H x inbox out
          ≡ writes x (at_second x.seat (message_in x) x.root (share_taken (taken_by H x inbox)) (faulty_shares H x inbox))
          (packet_taken x (taken_by H x inbox)) out
      unfolding take_shares_of relay_of held_of
      shares-taken h = rw (eq-eqb (inbox_cause 4 x inbox) 0 fine, h)

  -- step 5, the second inbox: by whether the party holds a result
  module _ (x : Party) (inbox out : List ℕ) where
    pub relays-refused : (relays_cause x inbox ≡ 0 → ⊥) → take_relays_of H x inbox out ≡ refused x (relays_cause x inbox) out
    unfolding take_relays_of
    relays-refused h = rw (ne_eqb (relays_cause x inbox) 0 h)

    module _ (fine : relays_cause x inbox ≡ 0) where
      pub relays-found : result_in x ≡ none → take_relays_of H x inbox out ≡ ending x (result_found H x inbox) (faulty_relays H x inbox) out
      unfolding take_relays_of result_of faulty_of
      relays-found h = rw (eq-eqb (relays_cause x inbox) 0 fine, h, holds_not x h)

      pub relays-again : (r : Result) → result_in x ≡ some r → take_relays_of H x inbox out ≡ ending x r x.faulty out
      unfolding take_relays_of result_of faulty_of
      relays-again r h = rw (eq-eqb (relays_cause x inbox) 0 fine, h, (holds-ended x r h).0)

  -- the result that is found, by whether the party is happy
  module _ (x : Party) (inbox : List ℕ) where
    pub found-happy : happy H x ≡ true → result_found H x inbox ≡ settled (message_in x)
    unfolding result_found
    found-happy h = rw h

    pub found-rebuilt : happy H x ≡ false
        → result_found H x inbox ≡ rebuilt (under_root H x.seat.session x.seat.n x.seat.t x.root (recovered_by H x inbox))
    unfolding result_found
    found-rebuilt h = rw h

-- what comes of an answer of the writer
abbrev written_told : Party → Party → Written → List ℕ → Stepped
written_told x next (goal.Refused k) o = gives x (answer.Refused k) o
written_told x next (goal.Short k) o = gives x (answer.Short k) o
written_told x next (goal.Done k) o = gives next (answer.Sent k) o

after-told : (x next : Party) (r : Answered ℕ (Refusal Cause)) (o : List ℕ) → stepped (after x next r) o ≡ written_told x next (said r) o
after-told x next (Ok k) o = refl
after-told x next (Err (refusal.Because c)) o = refl
after-told x next (Err (refusal.Short k)) o = refl

-- what is sent: the answer of the writer says whether the state is the next one
pub writes-given : (x next : Party) (bs out : List ℕ) (r : Answered ℕ (Refusal Cause)) (o : List ℕ) → gave (said r) o ≡ written bs out
    → stepped (after x next r) o ≡ writes x next bs out
unfolding written
writes-given x next bs out r o e =
    after-told x next r o ∙ ap (λ (g : Given). written_told x next g.answer g.buffer) e ∙ go (ltb (length out) (length bs))
  where
    go : (t : Bool)
        → let g = cond t (gave (goal.Short (length bs)) out) (gave (goal.Done (length bs)) (spliced out 0 bs)) in
        written_told x next g.answer g.buffer
        ≡ cond t (gives x (answer.Short (length bs)) out) (gives next (answer.Sent (length bs)) (spliced out 0 bs))
    go true = refl
    go false = refl

-- nothing is sent
pub writes_nothing : (x next : Party) (out : List ℕ) → writes x next [] out ≡ gives next (answer.Sent 0) out
writes_nothing x next out = rw (le-ltb (length out) 0 (omega arith), spliced-none out 0)

-- an end with a message: cause 9, or the message is written
module _ (x : Party) (m : List ℕ) (f : ℕ) (out : List ℕ) where
  pub ending-short : length out < length m → ending x (settled m) f out ≡ gives x (answer.Short (length m)) out
  ending-short h = rw (lt-ltb (length out) (length m) h)

  pub ending-done : length m ≤ length out
      → ending x (settled m) f out ≡ gives (at_end x.seat (settled m) f) (answer.Message (length m) f) (spliced out 0 m)
  ending-done h = rw (le-ltb (length out) (length m) h)
