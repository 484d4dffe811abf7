-- The shares of a message: how long they are, that they fit their array, what encoding gives, and that share j lies at its place
-- among them. Two roots are the same just where a comparison says so. By the bounds on n, t and the message, and by induction on n.
-- Assumes nothing.
use mathlib.Core.Path.{◌≡◌, refl, sym, ap, ◌∙◌}
use mathlib.Core.Bool.{Bool, true, false}
use mathlib.Core.List.{List, ◌++◌}
use Prim.Native.Nat.{ℕ, zero, suc, ◌+◌, ◌-◌, ◌*◌, ◌/◌, ◌%◌, ◌<◌, ◌≤◌}
use native.Mathlib.Nat.{mul-le-mul_right, mul_assoc, mul-mod_right, div-eq_of_eq-mul_right}
use native.Mathlib.Decide.{ℕ_discrete}
use native.Mathlib.Omega.{arith}
use lib.ListN.{length, take, drop, length-drop}
use lib.Seq.{take_all, take-append-le, drop-append-le, drop_at}
use Rattle.limits.specs.Limits.{max_parties, max_message, max_share}
use Rattle.limits.proofs.Group.{group-fine}
use Rattle.buffer.specs.Splice.{spliced}
use Rattle.std.specs.Prelude.{Result, Ok}
use Rattle.cause.specs.declared.Cause.{Cause}
use Rattle.cause.specs.declared.Refusal.{Refusal}
use Rattle.buffer.specs.Given.{Given, gave, said}
use Rattle.buffer.proofs.Splice.{take-spliced}
use Rattle.buffer.specs.Given.{Done}
use Rattle.buffer.proofs.Given.{written-done}
use Rattle.buffer.proofs.Rows.{row_inside}
use Rattle.erasure.specs.Coding.{share_length, share, shares, frame, encode_of}
use Rattle.erasure.proofs.Arrays.{shares-frame, length-shares_of}
use Rattle.erasure.proofs.Frame.{share-high, length-share}
use Rattle.erasure.proofs.Outcomes.{encode-written}
use Rattle.merkle.specs.Shares.{shares_cause, same}
use Rattle.merkle.proofs.Judged.{cause-fine, same_true, same_refl}
use Rattle.merkle.proofs.Written.{front-short}
use Rattle.commitment.specs.Rooms.{max_shares}
use Rattle.commitment.specs.Private.{Coded}
use Rattle.commitment.proofs.Answers.{said-done}

-- share j of n lies within the shares
pub share-inside : (n j s : ℕ) → 1 ≤ j → j ≤ n → (j - 1) * s + s ≤ n * s
share-inside n j s first last = row_inside n (j - 1) s (omega arith)

-- the length of one share, from that of all
pub one_of : (n s size : ℕ) → 1 ≤ n → size ≡ n * s → size / n ≡ s
one_of n s size low e = div-eq_of_eq-mul_right (omega arith) e

-- n shares of s bytes each are hashed
pub shares-fine : (session n s : ℕ) (all : List ℕ) → 1 ≤ n → n ≤ max_parties → s ≤ max_share → length all ≡ n * s → shares_cause session n (length all) ≡ 0
shares-fine session n s all low high short long =
    let each = one_of n s (length all) low long in
    cause-fine session n (length all) low high (omega (arith, front-short session)) (ap (λ (k : ℕ). k % n) long ∙ mul-mod_right n s)

-- n is less than 2·b, and b·s less than the message with its length and b
pub shares-bound : (n t l : ℕ) → 2 * t < n → n ≤ max_parties → l ≤ max_message
    → n * share_length (n - t) l ≤ max_shares
shares-bound n t l faults high short =
    let b : ℕ = n - t in
    let s : ℕ = share_length b l in
    let twice : n ≤ 2 * b = omega arith in
    omega (arith, mul-le-mul_right s twice, mul_assoc 2 b s, share-high b l (omega arith))

-- shares 1 to n, one behind the other
pub length-shares : (n b : ℕ) (m : List ℕ) → length (shares n b m) ≡ n * share_length b (length m)
length-shares n b m = ap length (shares-frame n b m) ∙ length-shares_of n b (share_length b (length m)) (frame b m)

pub share-at : (b : ℕ) (m : List ℕ) (n j : ℕ) → 1 ≤ j → j ≤ n
    → take (share_length b (length m)) (drop ((j - 1) * share_length b (length m)) (shares n b m)) ≡ share b j m
unfolding shares
share-at b m zero j first last = absurd (omega arith)
share-at b m (suc n) j first last =
    let s : ℕ = share_length b (length m) in
    elim (ℕ_discrete j (suc n)) [
      | yes e ↦
          let k : j - 1 ≡ n = omega arith in
          ap (λ (i : ℕ). take s (drop (i * s) (shares n b m ++ share b (suc n) m))) k
          ∙ ap (take s) (drop_at (shares n b m) (share b (suc n) m) (n * s) (length-shares n b m))
          ∙ take_all s (share b (suc n) m) (omega (arith, length-share b (suc n) m))
          ∙ ap (λ (i : ℕ). share b i m) (sym e)
      | no e ↦
          let room : (j - 1) * s + s ≤ n * s = share-inside n j s first (omega arith) in
          ap (take s) (drop-append-le ((j - 1) * s) (shares n b m) (share b (suc n) m) (omega (arith, length-shares n b m)))
          ∙ take-append-le s (drop ((j - 1) * s) (shares n b m)) (share b (suc n) m)
          (omega (arith, length-shares n b m, length-drop ((j - 1) * s) (shares n b m)))
          ∙ share-at b m n j first (omega arith)
    ]

module _ (n t : ℕ) (m out : List ℕ) (low : 1 ≤ n) (high : n ≤ max_parties) (faults : 2 * t < n) where
  pub encoded : length m ≤ max_message → length out ≡ max_shares
      → encode_of n t m out ≡ gave (Done (length (shares n (n - t) m))) (spliced out 0 (shares n (n - t) m))
  encoded short e =
      encode-written n t m out (group-fine n t low high faults) short
      ∙ written-done (shares n (n - t) m) out
      (omega (arith, length-shares n (n - t) m, shares-bound n t (length m) faults high short))

-- so encoding is not refused, and the array's first bytes are the shares
module _ (n t : ℕ) (m out : List ℕ) (c : Coded n t m) (e : length out ≡ max_shares) (r : Result ℕ (Refusal Cause)) (o : List ℕ)
    (given : gave (said r) o ≡ encode_of n t m out) where
  abbrev all : List ℕ
  all = shares n (n - t) m

  coded : gave (said r) o ≡ gave (Done (length all)) (spliced out 0 all)
  coded = given ∙ encoded n t m out c.low c.high c.faults c.short e

  pub coded-ok : r ≡ Ok (length all)
  coded-ok = said-done r (length all) (ap (λ (g : Given). g.answer) coded)

  pub coded_in : (k : ℕ) → r ≡ Ok k → (k ≤ max_shares) × (take k o ≡ shares n (n - t) m)
  coded_in k q =
      let both : Ok k ≡ Ok (length all) = sym q ∙ coded-ok in
      let size : k ≡ length all = cc in (
        omega (arith, length-shares n (n - t) m, shares-bound n t (length m) c.faults c.high c.short),
        ap (take k) (ap (λ (g : Given). g.buffer) coded) ∙ ap (λ (i : ℕ). take i (spliced out 0 all)) size ∙ take-spliced out all,
      )

agree : (r v : Bool) → (r ≡ true → v ≡ true) → (v ≡ true → r ≡ true) → r ≡ v
agree true v p q = sym (p refl)
agree false true p q = q refl
agree false false p q = refl

-- an answer that is yes just where two lists are equal
pub same-is : (a b : List ℕ) (r : Bool) → (r ≡ true → a ≡ b) → (a ≡ b → r ≡ true) → r ≡ same a b
same-is a b r p q =
    agree r (same a b) (λ h. ap (λ (x : List ℕ). same x b) (p h) ∙ same_refl b) (λ h. q (same_true a b h))
