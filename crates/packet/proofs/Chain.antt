-- Hashes one behind the other: their length, how one more is written behind them, and that chaining hashes and splitting bytes
-- into parts of 32 are inverse. By induction on the hashes, or on their number. Assumes nothing.
use mathlib.Core.Path.{◌≡◌, refl, sym, ap, ap₂, ◌∙◌}
use mathlib.Core.List.{List, [], ◌∷◌, ◌++◌, append_assoc}
use Prim.Native.Nat.{ℕ, zero, suc, ◌+◌, ◌*◌, ◌≤◌}
use native.Mathlib.Omega.{arith}
use lib.ListN.{length, take, drop, length-append, length-drop}
use lib.Seq.{take-add, take_at, drop_at}
use Rattle.std.specs.List.{flat_map}
use Rattle.merkle.proofs.Sound.{Wide}
use Rattle.packet.specs.Format.{chained, hashes}

-- the first hash, and those behind it
wide-head : (w : ℕ) (h : List ℕ) (hs : List (List ℕ)) → Wide w (h ∷ hs) → length h ≡ w
wide-head w h hs z = z 0 (omega arith)

wide-tail : (w : ℕ) (h : List ℕ) (hs : List (List ℕ)) → Wide w (h ∷ hs) → Wide w hs
wide-tail w h hs z i l = z (suc i) (omega arith)

pub length-chained : (p : List (List ℕ)) → Wide 32 p → length (chained p) ≡ 32 * length p
unfolding chained
length-chained [] z = refl
length-chained (h ∷ hs) z =
    omega (arith, length-append h (chained hs), wide-head 32 h hs z, length-chained hs (wide-tail 32 h hs z))

-- the same as std's word for it
pub chained_flat : (p : List (List ℕ)) → flat_map (λ x. x) p ≡ chained p
unfolding chained
chained_flat [] = refl
chained_flat (h ∷ hs) = ap (λ (l : List ℕ). h ++ l) (chained_flat hs)

pub hashes-chained : (p : List (List ℕ)) (r : List ℕ) → Wide 32 p → hashes (length p) (chained p ++ r) ≡ p
unfolding chained hashes
hashes-chained [] r z = refl
hashes-chained (h ∷ hs) r z =
    let w : length h ≡ 32 = wide-head 32 h hs z in
    let e : (h ++ chained hs) ++ r ≡ h ++ (chained hs ++ r) = append_assoc h (chained hs) r in
    ap₂ {C = List (List ℕ)} (λ x xs. x ∷ xs) (ap (take 32) e ∙ take_at h (chained hs ++ r) 32 w)
    (ap (λ (l : List ℕ). hashes (length hs) (drop 32 l)) e
    ∙ ap (hashes (length hs)) (drop_at h (chained hs ++ r) 32 w)
    ∙ hashes-chained hs r (wide-tail 32 h hs z))

pub chained-hashes : (k : ℕ) (l : List ℕ) → 32 * k ≤ length l → chained (hashes k l) ≡ take (32 * k) l
unfolding chained hashes
chained-hashes zero l h = refl
chained-hashes (suc k) l h =
    let more : 32 * suc k ≡ 32 + 32 * k = omega arith in
    ap (λ (b : List ℕ). take 32 l ++ b) (chained-hashes k (drop 32 l) (omega (arith, length-drop 32 l)))
    ∙ sym (take-add 32 (32 * k) l) ∙ ap (λ (n : ℕ). take n l) (sym more)
