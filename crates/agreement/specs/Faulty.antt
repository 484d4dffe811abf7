-- Parties seen to be faulty (document 02, No. 7: boxes seen to cheat). Of one party, whoever the others are: its map names a sender exactly if one of the two
-- packets that came under that number was faulty. Of all good parties of a session together, however many are bad: no good party is in a good party's map. The
-- hash is a parameter; the first is proved for every one, the second for every one of 32 bytes (proofs/Faulty). Assumes nothing.
use Rattle.std.specs.Prelude.{◌≡◌, ◌≢◌, Bool, false, not, ◌&&◌, ◌||◌, ℕ, ◌≤◌}
use mathlib.Core.List.{List, map, Memᴰ}
use Rattle.std.proofs.Math.Option.{Option, none, some}
use Rattle.bitmap.specs.Bitmap.{names}
use Rattle.party.specs.State.{has_ended}
use Rattle.party.specs.Steps.{sent_faulty}
use Rattle.party.specs.declared.Party.{Party}
use Rattle.party.specs.declared.Stage.TheVariants.{Second}
use Rattle.agreement.specs.Calls.{Call, agree_root, step_of, inbox_in, Event, heard, wrote, packet_to, events, final, opening, did, first_of}
use Rattle.agreement.specs.Agreement.{Good, Each}
use Rattle.agreement.specs.Agreement as agreement

module _ (H : List ℕ → List ℕ) where
  -- under the root z, what sender p sent in the inbox of the accepted step 4 is faulty, the party's own number being demanded of it; and in that of the step 5
  -- that ended the party, the sender's
  module _ (session n own : ℕ) (z : List ℕ) (p : ℕ) where
    abbrev pub faulty_first : Option Event → Bool
    faulty_first none = false
    faulty_first (some e) = sent_faulty H session n own z (inbox_in e.call) own p

    abbrev pub faulty_second : Option Event → Bool
    faulty_second none = false
    faulty_second (some e) = not (has_ended e.before.stage) && sent_faulty H session n own z (inbox_in e.call) p p

  -- a party that opened with a session's number, n, t, its number and a message, and then got these calls
  module _ (session n t own : ℕ) (m : List ℕ) (calls : List Call) where
    -- its state after all of them
    abbrev pub last : Party
    last = final H (opening H session n t own m).state calls

    -- the accepted step 4 gives a state whose map names p exactly if what it sent in the first inbox was faulty; after all calls it names p exactly if that was,
    -- or what it sent in the second; and every accepted step 5, the first and all that read the result again, gives that map and a state with it
    pub record Named (z : List ℕ) (p : ℕ) : Type 0 where
      pub first : (e : Event) → first_of H session n t own m calls 4 ≡ some e → names e.reply.state.faulty p ≡ faulty_first session n own z p (some e)
      pub after : names last.faulty p
          ≡ faulty_first session n own z p (first_of H session n t own m calls 4) || faulty_second session n own z p (first_of H session n t own m calls 5)
      pub given : (e : Event) → Memᴰ e (did H session n t own m calls) → step_of e.call ≡ 5
          → (e.reply.faulty ≡ last.faulty) × (e.reply.state.faulty ≡ last.faulty)

  -- for every list of calls after an accepted opening, z being the root of its accepted step 2, if there is one
  abbrev pub NamedIfFaulty : Type 0
  NamedIfFaulty =
      (session n t own : ℕ) (m : List ℕ) (calls : List Call) (z : List ℕ) → (opening H session n t own m).cause ≡ 0
      → ((e : Event) → first_of H session n t own m calls 2 ≡ some e → e.call ≡ agree_root z) → (p : ℕ) → 1 ≤ p → p ≤ n
      → Named session n t own m calls z p

-- a good party: its number, the t that it was told, its message, and the calls that it gets after its opening
pub record Member : Type 0 where
  pub own : ℕ
  pub t : ℕ
  pub message : List ℕ
  pub calls : List Call

module _ (H : List ℕ → List ℕ) (session n : ℕ) (good : List Member) where
  abbrev pub Every : (Member → Type 0) → Type 0
  Every P = (A : Member) → Memᴰ A good → P A

  -- a party's opening state, and its first accepted call of step k
  abbrev pub begun : Member → Party
  begun A = (opening H session n A.t A.own A.message).state

  abbrev pub step : ℕ → Member → Option Event
  step k A = first_of H session n A.t A.own A.message A.calls k

  -- what is supposed: their numbers start at 1; whoever had an accepted step 2 got z in it; and what another good party B sent to A, and nothing else, stands under
  -- B's number in the inbox of A's accepted step 4, and of its first accepted step 5 if that was made while the second inbox was awaited. B's packet for A is
  -- from its accepted step 3, its relay from its accepted step 4, no bytes where it had none. Nothing is said of t, of the bit, of messages, of how many are bad,
  -- of hashes that collide, and of a result that is read again
  pub record Premises (z : List ℕ) : Type 0 where
    pub numbered : Every (λ A. 1 ≤ A.own)
    pub root : Every (λ A. (e : Event) → step 2 A ≡ some e → e.call ≡ agree_root z)
    pub first_inbox : Every (λ A. (e : Event) → step 4 A ≡ some e
        → Every (λ B. A.own ≢ B.own → heard n B.own (some e) ≡ packet_to n A.own (step 3 B)))
    pub second_inbox : Every (λ A. (e : Event) → step 5 A ≡ some e → e.before.stage ≡ Second
        → Every (λ B. A.own ≢ B.own → heard n B.own (some e) ≡ wrote (step 4 B)))

  -- what then holds of A and B: A's map does not name B in its opening's state, before and after every call, accepted or refused, with what it gives, and at
  -- the end
  pub record Unnamed (A B : Member) : Type 0 where
    pub opened : names (begun A).faulty B.own ≡ false
    pub before : (e : Event) → Memᴰ e (events H (begun A) A.calls) → names e.before.faulty B.own ≡ false
    pub after : (e : Event) → Memᴰ e (events H (begun A) A.calls) → names e.reply.state.faulty B.own ≡ false
    pub given : (e : Event) → Memᴰ e (events H (begun A) A.calls) → names e.reply.faulty B.own ≡ false
    pub ended : names (final H (begun A) A.calls).faulty B.own ≡ false

-- a good party of agreement, all of which were told one t
abbrev pub member_of : ℕ → Good → Member
member_of t A = record { own = A.own; t = t; message = A.message; calls = A.calls }

-- for all session numbers and n, all good parties, all roots
abbrev pub NoGoodNamed : (List ℕ → List ℕ) → Type 0
NoGoodNamed H =
    (session n : ℕ) (good : List Member) (z : List ℕ) → Premises H session n good z
    → Every H session n good (λ A. Every H session n good (λ B. Unnamed H session n good A B))

-- so in every session that agreement speaks of, on either bit
abbrev pub NoGoodNamedInAgreement : (List ℕ → List ℕ) → Type 0
NoGoodNamedInAgreement H =
    (session n t : ℕ) (good : List Good) (z : List ℕ) (bit : ℕ) → agreement.Premises H session n t good z bit
    → Each H session n t good (λ A. Each H session n t good (λ B. Unnamed H session n (map (member_of t) good) (member_of t A) (member_of t B)))
