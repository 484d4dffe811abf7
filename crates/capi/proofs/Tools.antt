-- The tools beside the steps: the number that a packet gives, whose parts are small, and the check of a path that lies as bytes.
-- Assumes nothing.
use mathlib.Core.Path.{◌≡◌, refl, sym, ap, subst, ◌∙◌}
use mathlib.Core.Bool.{Bool, true, false, cond, not}
use mathlib.Core.List.{List}
use Prim.Native.Nat.{ℕ, ◌+◌, ◌-◌, ◌/◌, ◌≤◌}
use native.Mathlib.Nat.{mul-div-le}
use native.Mathlib.Decide.{dec_lt}
use native.Mathlib.Omega.{arith}
use borrow.Author.Tests.{ne_eqb}
use lib.Dec.{ltb, eqb}
use lib.ListN.{length, drop, replicate}
use Rattle.std.specs.Prelude.{Option, Some, Result, Ok}
use Rattle.cause.specs.declared.Cause.{Cause}
use Rattle.limits.specs.Limits.{max_parties, max_path, max_share, max_message, max_hashed, parties, numbered}
use Rattle.limits.proofs.Ranges.{parties-range, numbered-range}
use Rattle.sha256.specs.Sha256.{sha256}
use Rattle.merkle.specs.Answer.{Check, not_checked, answer_of}
use Rattle.merkle.specs.Shares.{front_length, blank, sides_of, passes, check_of}
use Rattle.merkle.proofs.Descend.{sides-fit}
use Rattle.packet.specs.Format.{hashes, read_of}
use Rattle.packet.specs.Answer.{told, placed, read_at, path_at}
use Rattle.packet.specs.declared.Share.{Share}
use Rattle.packet.specs.Packet.{Packet, read_said}
use Rattle.packet.specs.Packet as packet
use Rattle.packet.specs.Message.{read_message}
use Rattle.packet.specs.Message as message
use Rattle.packet.specs.MessagePacket.{MessagePacket, message_said}
use Rattle.packet.specs.MessagePacket as whole
use Rattle.packet.proofs.Path.{length-hashes, path-there}
use Rattle.packet.proofs.Reading.{told-one, lies-of}
use Rattle.packet.proofs.Messages.{placed-message, read_length}
use Rattle.packet.proofs.Verdict.{passes-take}

-- the parts of a share are small
PartsIn : Packet → Type 0
PartsIn (packet.Refused k) = Unit {0}
PartsIn packet.Silence = Unit {0}
PartsIn (packet.Share number from len count) = (number ≤ max_parties) × (len ≤ max_share) × (count ≤ max_path)

parts-of : (n : ℕ) (p : List ℕ) (number from len count : ℕ) → read_at n p 0 ≡ packet.Share number from len count
    → (number ≤ max_parties) × (len ≤ max_share) × (count ≤ max_path)
unfolding read_at PartsIn
parts-of n p number from len count e = go (parties n) refl e
  where
    go : (b : Bool) → parties n ≡ b
        → cond (not b) (packet.Refused 1) (placed 0 (read_of n (drop 0 p))) ≡ packet.Share number from len count
        → (number ≤ max_parties) × (len ≤ max_share) × (count ≤ max_path)
    go false q h = subst PartsIn h tt
    go true q h =
        let l = lies-of n 0 (drop 0 p) number from len count h in
        let high = (parties-range n q).1 in
        (omega (arith, l.high, high), l.most, omega (arith, l.counted, sides-fit n (number - 1) high (omega (arith, l.low, l.high))))

-- what the packet's reader answered
module _ (n : ℕ) (s : List ℕ) (r : Result (Option Share) Cause) (e : told (read_said r) ≡ told (read_at n s 0)) where
  pub parts_told : (m : Option Share) (x : Share) → r ≡ Ok m → m ≡ Some x → (x.number ≤ max_parties) × (x.len ≤ max_share) × (x.count ≤ max_path)
  parts_told m x q k = parts-of n s x.number x.from x.len x.count (sym (told-one e) ∙ ap read_said (q ∙ ap Ok k))

-- and a message that was read is no longer than any
pub message_short : (s : List ℕ) (r : Result (Option ℕ) Cause) (m : Option ℕ) (len : ℕ) → message.told (message_said r) ≡ message.told (message.placed (read_message s))
    → r ≡ Ok m → m ≡ Some len → len ≤ max_message
message_short s r m len e q k =
    let same : message.placed (read_message s) ≡ whole.Message len = sym (ap (λ (t : message.Told). t.answer) e) ∙ ap message_said (q ∙ ap Ok k) in
    let m = placed-message (read_message s) len same in
    omega (arith, m.2, read_length s m.0 m.1)

-- the path that lies as bytes, in an array or as it is
module _ (session n j : ℕ) (share path root : List ℕ) where
  abbrev Count : ℕ
  Count = length path / 32

  same-passes : parties n ≡ true → numbered n j ≡ true
      → passes sha256 session n j share (path_at path 0 Count) Count root ≡ passes sha256 session n j share (hashes Count path) Count root
  unfolding passes
  same-passes p q =
      let few = sides-fit n (j - 1) (parties-range n p).1 (omega (arith, numbered-range n j q)) in
      elim (dec_lt max_path Count) [
        | yes h ↦ rw (ne_eqb Count (length (sides_of n j)) (λ e. absurd (omega (arith, e, few, h))))
        | no h ↦ ap (λ (l : List (List ℕ)). passes sha256 session n j share l Count root)
            (path-there path 0 Count (omega arith) (omega (arith, mul-div-le (length path) 32)))
            ∙ passes-take session n j share (hashes Count path) (replicate (max_path - Count) blank) Count root (length-hashes Count path)
      ]

  pub path_checked : check_of sha256 session n j share (path_at path 0 Count) Count root ≡ check_of sha256 session n j share (hashes Count path) Count root
  unfolding check_of
  path_checked = go (parties n) refl (numbered n j) refl
    where
      after : Bool → Check
      after t = cond (ltb max_hashed (front_length session + length share)) (not_checked 4) (cond (not (eqb (length root) 32)) (not_checked 7) (answer_of t))

      go : (a : Bool) → parties n ≡ a → (b : Bool) → numbered n j ≡ b
          → cond (not a) (not_checked 1) (cond (not b) (not_checked 3) (after (passes sha256 session n j share (path_at path 0 Count) Count root)))
          ≡ cond (not a) (not_checked 1) (cond (not b) (not_checked 3) (after (passes sha256 session n j share (hashes Count path) Count root)))
      go false p b q = refl
      go true p false q = refl
      go true p true q = ap after (same-passes p q)
