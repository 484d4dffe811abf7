-- What the root's check in step 5 gives (document 02, No. 4). Of one party, whoever the others are: a message that it ends with has the root that it was told
-- was agreed. Of all good parties together, however many are bad, where they are told one root and one bit and the bit is by its rule: none ends with a
-- message that no good party opened with, unless two strings that they hashed collide; and where no two strings of openings and path checks collide, no call
-- gives anything else than without the check, and what is coded again has no other string. The hash is a parameter; the first is proved for every one, the
-- others for every one of 32 bytes (proofs/AgreedRoot). Assumes nothing.
use Rattle.std.specs.Prelude.{◌≡◌, ◌⊎◌, false, cond, not, ℕ, ◌-◌, eqb}
use mathlib.Core.List.{List, [], ◌∷◌, Memᴰ}
use Rattle.std.proofs.Math.Option.{some}
use Rattle.buffer.specs.Bounds.{Bytes}
use Rattle.erasure.specs.Coding.{shares}
use Rattle.merkle.specs.Strings.{Collision}
use Rattle.merkle.specs.Shares.{coding_strings}
use Rattle.party.specs.State.{Result, nothing, settled, message_in, result_in, has_ended, message_root, happy}
use Rattle.party.specs.Steps.{Stepped, refused, recovered_by, rebuilt, held_or, relays_cause, faulty_of, ending}
use Rattle.party.specs.declared.Party.{Party}
use Rattle.agreement.specs.Calls.{Call, agree_root, agree_bit, take_shares, take_relays, step_of, Event, bit_given, made, events}
use Rattle.agreement.specs.Calls.{opening, did, first_of, result_after, recoded}
use Rattle.agreement.specs.Agreement.{Good, Each, step, Rule, all_opened_and_checked, all_settling, Clean}

module _ (H : List ℕ → List ℕ) where
  -- step 5 without the check, as it was: what is rebuilt is taken, whatever its root
  unfoldable pub found_unchecked : Party → List ℕ → Result
  found_unchecked x inbox = cond (happy H x) (settled (message_in x)) (rebuilt (recovered_by H x inbox))

  unfoldable pub take_relays_unchecked : Party → List ℕ → List ℕ → Stepped
  take_relays_unchecked x inbox out =
      cond (not (eqb (relays_cause x inbox) 0)) (refused x (relays_cause x inbox) out)
      (ending x (held_or (result_in x) (found_unchecked x inbox)) (faulty_of H x inbox) out)

  -- a list of calls with that step 5, and the other steps as they are
  unfoldable pub made_unchecked : Party → Call → Stepped
  made_unchecked x (agree_root z) = made H x (agree_root z)
  made_unchecked x (agree_bit bit out) = made H x (agree_bit bit out)
  made_unchecked x (take_shares inbox out) = made H x (take_shares inbox out)
  made_unchecked x (take_relays inbox out) = take_relays_unchecked x inbox out

  unfoldable pub events_unchecked : Party → List Call → List Event
  events_unchecked x [] = []
  events_unchecked x (c ∷ cs) =
      record { before = x; call = c; reply = made_unchecked x c } ∷ events_unchecked (made_unchecked x c).state cs

  -- a party ends with a result: its state holds it after all calls, or an accepted step 5 gave it
  abbrev pub EndsWith : ℕ → ℕ → ℕ → Good → Result → Type 0
  EndsWith session n t A R =
      (result_after H session n t A.own A.message A.calls ≡ some R)
      ⊎ ((e : Event) × Memᴰ e (did H session n t A.own A.message A.calls) × (step_of e.call ≡ 5) × (e.reply.result ≡ some R))

  -- one party
  pub record EndsUnderItsRoot : Type 0 where
    -- step 5 on any state that has not ended, with any inbox and buffer
    pub any-state : (x : Party) (inbox out m : List ℕ) → has_ended x.stage ≡ false → (made H x (take_relays inbox out)).result ≡ some (settled m)
        → message_root H x.seat.session x.seat.n x.seat.t m ≡ x.root
    -- any list of calls: whoever ends with a message had a first accepted step 2, and its root is the message's
    pub any-list : (session n t : ℕ) (A : Good) (m : List ℕ) → EndsWith session n t A (settled m) → (e : Event) × (z : List ℕ)
        × (first_of H session n t A.own A.message A.calls 2 ≡ some e) × (e.call ≡ agree_root z) × (message_root H session n t m ≡ z)

  -- what is supposed of all good parties: they opened with messages of bytes; each got the agreed root z in its first accepted step 2, and the agreed bit in
  -- its first accepted step 3, if it had one; and the rule of the bit. Nothing is said of how many are bad, of inboxes, or of the root's rule
  pub record Told (session n t : ℕ) (good : List Good) (z : List ℕ) (bit : ℕ) : Type 0 where
    pub bytes : Each H session n t good (λ A. Bytes A.message)
    pub root : Each H session n t good (λ A. (e : Event) × (step H session n t good 2 A ≡ some e) × (e.call ≡ agree_root z))
    pub same_bit : Each H session n t good (λ A. (e : Event) → step H session n t good 3 A ≡ some e → (out : List ℕ) × (e.call ≡ agree_bit bit out))
    pub vote : Rule H session n t good (λ A. bit_given (step H session n t good 2 A)) bit

  -- a result of A is nothing or a message that a good party opened with; or a string of A's second coding and one of a good party's opening, two different
  -- ones, have one hash
  abbrev pub Somebodys : ℕ → ℕ → ℕ → List Good → Good → Result → Type 0
  Somebodys session n t good A R =
      (R ≡ nothing) ⊎ ((B : Good) × Memᴰ B good
      × ((R ≡ settled B.message) ⊎ Collision H (recoded H session n t A.own A.message A.calls) (coding_strings H session n (shares n (n - t) B.message))))

  abbrev pub NoInventedMessage : Type 0
  NoInventedMessage =
      (session n t : ℕ) (good : List Good) (z : List ℕ) (bit : ℕ) → Told session n t good z bit
      → Each H session n t good (λ A. (R : Result) → EndsWith session n t A R → Somebodys session n t good A R)

  -- every string that settles a good party's results is one of an opening or of the path checks that settle what is relayed and rebuilt. So to suppose that no
  -- two different ones of these have one hash is to suppose it of the messages coded again too. Of all strings hashed nothing of this kind holds: what bad
  -- parties send to happy ones is checked as well, and nothing bounds its strings
  abbrev pub NoStringMore : Type 0
  NoStringMore =
      (session n t : ℕ) (good : List Good) (z : List ℕ) (bit : ℕ) → Told session n t good z bit → Clean H session n t good
      → (s : List ℕ) → Memᴰ s (all_settling H session n t good) → Memᴰ s (all_opened_and_checked H session n t good)

  -- every call of every good party gives what it gives without the check: state, answer, result and buffer. What is supposed is read over the calls as they are
  -- with the check: without it a forged inbox with a short buffer is cause 9, and its strings are in no list
  abbrev pub NoOtherEnding : Type 0
  NoOtherEnding =
      (session n t : ℕ) (good : List Good) (z : List ℕ) (bit : ℕ) → Told session n t good z bit → Clean H session n t good
      → Each H session n t good (λ A. let x = (opening H session n t A.own A.message).state in events_unchecked x A.calls ≡ events H x A.calls)
