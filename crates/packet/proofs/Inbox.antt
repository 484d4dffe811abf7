-- Packing packets into an inbox and taking it apart are inverse: the packets' entries fill it and are its bodies, and bytes that
-- entries fill are the inbox of their bodies. By induction on the entries. Assumes nothing.
use mathlib.Core.Path.{◌≡◌, refl, sym, ap, ap₂, ◌∙◌}
use mathlib.Core.Bool.{true}
use mathlib.Core.List.{List, [], ◌∷◌, ◌++◌, append-nil, append_assoc}
use Prim.Native.Nat.{ℕ, zero, suc, ◌+◌, ◌*◌, ◌/◌, ◌%◌, ◌<◌, ◌≤◌}
use native.Mathlib.Omega.{arith}
use borrow.Author.Tests.{le-ltb, eqb-true}
use lib.ListN.{length, take, drop, take-append-drop}
use lib.Seq.{drop-drop, length-take-le}
use Rattle.buffer.specs.Entries.{size, body, rest, fills, bodies}
use Rattle.buffer.proofs.Entries.{whole, entry-body, entry-rest, entry_whole}
use Rattle.packet.specs.Format.{entry_of}
use Rattle.buffer.specs.Bounds.{Bytes}
use Rattle.buffer.proofs.Bounds.{rest-bytes}
use Rattle.packet.specs.Inbox.{inbox_of}

pub inbox-fills : (ps : List (List ℕ)) → fills (length ps) (inbox_of ps) ≡ true
unfolding fills inbox_of entry_of
inbox-fills [] = refl
inbox-fills (p ∷ ps) =
    let s : List ℕ = entry_of p ++ inbox_of ps in
    rw (le-ltb (length s) (2 + size s) (entry_whole p (inbox_of ps)))
    (ap (fills (length ps)) (entry-rest p (inbox_of ps)) ∙ inbox-fills ps)

pub inbox-bodies : (ps : List (List ℕ)) → bodies (length ps) (inbox_of ps) ≡ ps
unfolding bodies inbox_of entry_of
inbox-bodies [] = refl
inbox-bodies (p ∷ ps) =
    ap₂ {C = List (List ℕ)} (λ x xs. x ∷ xs) (entry-body p (inbox_of ps))
    (ap (bodies (length ps)) (entry-rest p (inbox_of ps)) ∙ inbox-bodies ps)

empty : (s : List ℕ) → length s ≡ 0 → s ≡ []
empty [] h = refl
empty (a ∷ s) h = absurd (omega arith)

-- the first entry of bytes that have it whole
first_entry : (s : List ℕ) → Bytes s → 2 + size s ≤ length s → entry_of (body s) ++ rest s ≡ s
unfolding size body rest entry_of
first_entry [] small h = absurd (omega arith)
first_entry (a ∷ []) small h = absurd (omega arith)
first_entry (a ∷ b ∷ r) small h =
    let k : ℕ = a * 256 + b in
    let long : length (take k r) ≡ k = length-take-le k r (omega arith) in
    let byte : b < 256 = small 1 in
    let high : length (take k r) / 256 ≡ a = omega arith in
    let low : length (take k r) % 256 ≡ b = omega arith in
    ap₂ (λ (x y : ℕ). x ∷ y ∷ (take k r ++ drop (2 + k) (a ∷ b ∷ r))) high low
    ∙ ap (λ (l : List ℕ). a ∷ b ∷ (take k r ++ l)) (sym (drop-drop k 2 (a ∷ b ∷ r)))
    ∙ ap (λ (l : List ℕ). a ∷ b ∷ l) (take-append-drop k r)

pub bodies-inbox : (n : ℕ) (s : List ℕ) → Bytes s → fills n s ≡ true → inbox_of (bodies n s) ≡ s
unfolding rest fills bodies inbox_of
bodies-inbox zero s small h = sym (empty s (eqb-true (length s) 0 h))
bodies-inbox (suc n) s small h =
    let t = whole n (suc n) 0 s refl h in
    ap (λ (l : List ℕ). entry_of (body s) ++ l) (bodies-inbox n (rest s) (rest-bytes s small) t.tail)
    ∙ first_entry s small (omega (arith, t.inside))

-- a packet more
pub inbox-more : (ps : List (List ℕ)) (p : List ℕ) → inbox_of (ps ++ (p ∷ [])) ≡ inbox_of ps ++ entry_of p
unfolding inbox_of
inbox-more [] p = append-nil (entry_of p)
inbox-more (q ∷ ps) p =
    ap (λ (l : List ℕ). entry_of q ++ l) (inbox-more ps p) ∙ sym (append_assoc (entry_of q) (inbox_of ps) (entry_of p))
