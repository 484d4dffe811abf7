-- Packets that pass in an inbox: the strings of their check are among those hashed, step 4 finds one where there is one, and what step 5
-- gathers. By cases of a packet's class, and by induction along an inbox. Assumes nothing.
use mathlib.Core.Path.{◌≡◌, refl, sym, ap, ap₂, ◌∙◌, subst}
use mathlib.Core.Logic.{◌≢◌, inl, inr}
use mathlib.Core.Bool.{cond}
use mathlib.Core.List.Memᴰ
use mathlib.Core.List.{List, [], ◌∷◌, ◌++◌, Memᴰ}
use Prim.Native.Nat.{ℕ, zero, suc, ◌+◌, ◌<◌}
use native.Mathlib.Nat.{add-zero}
use native.Mathlib.Omega.{arith}
use borrow.Author.Tests.{ne_eqb}
use lib.Dec.{eqb}
use lib.ListN.{length, get_or}
use Rattle.packet.specs.Class.{Class, silent, faulty, valid, class_of, class_strings}
use Rattle.party.specs.State.{share_held}
use Rattle.party.specs.Steps.{missing, found, first_valid, share_from, gathered}
use Rattle.party.specs.Strings.{unless_valid, share_strings, judged_strings, all_share_strings, relay_strings}
use Rattle.party.specs.declared.Party.{Party}
use Rattle.party.proofs.Ways.{Way, on, off, way}

module _ (H : List ℕ → List ℕ) (session n : ℕ) where
  -- the packet that step 4 takes from senders numbered from j on
  pub record Took (i : ℕ) (z : List ℕ) (j : ℕ) (ps : List (List ℕ)) (x : List ℕ) (p : List (List ℕ)) : Type 0 where
    pub packet : List ℕ
    pub good : class_of H session n i z packet ≡ valid x p
    pub hashed : (s : List ℕ) → Memᴰ s (class_strings H session n i packet) → Memᴰ s (share_strings H session n i z j ps)

  not-missing : {x : List ℕ} {p : List (List ℕ)} → missing ≡ found x p → ⊥
  not-missing e = let q : ◌≡◌ {A = ℕ} 0 1 = cc in omega arith

  same-found : {x y : List ℕ} {p q : List (List ℕ)} → found x p ≡ found y q → (x ≡ y) × (p ≡ q)
  same-found e = (cc, cc)

  pub took : (i : ℕ) (z : List ℕ) (j : ℕ) (ps : List (List ℕ)) (x : List ℕ) (p : List (List ℕ)) → first_valid H session n i z j ps ≡ found x p
      → Took i z j ps x p
  unfolding first_valid share_strings
  took i z j [] x p e = absurd (not-missing e)
  took i z j (w ∷ ps) x p e = go (way (eqb j i)) (class_of H session n i z w) refl (took i z (j + 1) ps x p)
    where
      later : Way (eqb j i) → Took i z (j + 1) ps x p → (s : List ℕ)
          → Memᴰ s (share_strings H session n i z (j + 1) ps)
          → unless_valid (class_of H session n i z w) (share_strings H session n i z (j + 1) ps) ≡ share_strings H session n i z (j + 1) ps
          → Memᴰ s (share_strings H session n i z j (w ∷ ps))
      later (on a) t s h u = rw a h
      later (off a) t s h u =
          rw a (Memᴰ.append_right (class_strings H session n i w)
          (subst (λ (l : List (List ℕ)). Memᴰ s l) (sym u) h))

      go : Way (eqb j i) → (c : Class) → class_of H session n i z w ≡ c → (first_valid H session n i z (j + 1) ps ≡ found x p → Took i z (j + 1) ps x p)
          → Took i z j (w ∷ ps) x p
      go (on a) c q r =
          let t = r (rw a at e) in
          record { packet = t.packet; good = t.good; hashed = λ s h. rw a (t.hashed s h) }
      go (off a) silent q r =
          let t = r (rw (a, q) at e) in
          record {
            packet = t.packet;
            good = t.good;
            hashed = λ s h. later (off a) t s (t.hashed s h) (ap (λ (c : Class). unless_valid c (share_strings H session n i z (j + 1) ps)) q);
          }
      go (off a) faulty q r =
          let t = r (rw (a, q) at e) in
          record {
            packet = t.packet;
            good = t.good;
            hashed = λ s h. later (off a) t s (t.hashed s h) (ap (λ (c : Class). unless_valid c (share_strings H session n i z (j + 1) ps)) q);
          }
      go (off a) (valid y q') q r =
          let f = same-found (rw (a, q) at e) in
          record {
            packet = w;
            good = q ∙ ap₂ valid f.0 f.1;
            hashed = λ s h. rw a (Memᴰ.append_left (unless_valid (class_of H session n i z w) (share_strings H session n i z (j + 1) ps)) h);
          }

  -- it finds one where another sender's packet passes
  pub finds : (i : ℕ) (z : List ℕ) (j : ℕ) (ps : List (List ℕ)) (k : ℕ) (x : List ℕ) (p : List (List ℕ)) → k < length ps → j + k ≢ i
      → class_of H session n i z (get_or ps k []) ≡ valid x p → (y : List ℕ) × (q : List (List ℕ)) × (first_valid H session n i z j ps ≡ found y q)
  unfolding first_valid
  finds i z j [] k x p l d e = absurd (omega arith)
  finds i z j (w ∷ ps) zero x p l d e = (x, p, rw (ne_eqb j i (λ a. d (add-zero j ∙ a)), e))
  finds i z j (w ∷ ps) (suc k) x p l d e =
      go (way (eqb j i)) (class_of H session n i z w) refl
      (finds i z (j + 1) ps k x p (omega arith) (λ a. let b : j + suc k ≡ i = omega (arith, a) in d b) e)
    where
      go : Way (eqb j i) → (c : Class) → class_of H session n i z w ≡ c
          → (y : List ℕ) × (q : List (List ℕ)) × (first_valid H session n i z (j + 1) ps ≡ found y q)
          → (y : List ℕ) × (q : List (List ℕ)) × (first_valid H session n i z j (w ∷ ps) ≡ found y q)
      go (on a) c f r = (r.0, r.1, rw a r.2)
      go (off a) silent f r = (r.0, r.1, rw (a, f) r.2)
      go (off a) faulty f r = (r.0, r.1, rw (a, f) r.2)
      go (off a) (valid y q) f r = (y, q, rw (a, f))

  -- the strings of all checks of an inbox
  pub in-judged : (i : ℕ) (number : ℕ → ℕ) (j : ℕ) (ps : List (List ℕ)) (k : ℕ) → k < length ps → j + k ≢ i → (s : List ℕ)
      → Memᴰ s (class_strings H session n (number (j + k)) (get_or ps k [])) → Memᴰ s (judged_strings H session n i number j ps)
  unfolding judged_strings
  in-judged i number j [] k l d s h = absurd (omega arith)
  in-judged i number j (w ∷ ps) zero l d s h =
      let e : j + 0 ≡ j = add-zero j in
      rw (ne_eqb j i (λ a. d (e ∙ a)))
      (Memᴰ.append_left (judged_strings H session n i number (j + 1) ps)
      (subst (λ (u : ℕ). Memᴰ s (class_strings H session n (number u) w)) e h))
  in-judged i number j (w ∷ ps) (suc k) l d s h =
      let e : j + suc k ≡ j + 1 + k = omega arith in
      Memᴰ.append_right (cond (eqb j i) [] (class_strings H session n (number j) w))
      (in-judged i number (j + 1) ps k (omega arith) (λ a. d (e ∙ a)) s
      (subst (λ (u : ℕ). Memᴰ s (class_strings H session n (number u) (get_or ps k []))) e h))

  -- those of step 5's
  pub in-relays : (i j : ℕ) (ps : List (List ℕ)) (k : ℕ) → k < length ps → j + k ≢ i → (s : List ℕ)
      → Memᴰ s (class_strings H session n (j + k) (get_or ps k [])) → Memᴰ s (relay_strings H session n i j ps)
  in-relays i j ps k l d s h = in-judged i (λ u. u) j ps k l d s h

  -- the checks that settle what is relayed are among those of all
  pub shares-judged : (i : ℕ) (z : List ℕ) (j : ℕ) (ps : List (List ℕ)) (s : List ℕ) → Memᴰ s (share_strings H session n i z j ps)
      → Memᴰ s (all_share_strings H session n i j ps)
  unfolding share_strings judged_strings
  shares-judged i z j [] s h = h
  shares-judged i z j (w ∷ ps) s h = go (way (eqb j i)) (class_of H session n i z w) refl (shares-judged i z (j + 1) ps s)
    where
      split : (c : Class) → (Memᴰ s (share_strings H session n i z (j + 1) ps) → Memᴰ s (all_share_strings H session n i (j + 1) ps))
          → Memᴰ s (class_strings H session n i w ++ unless_valid c (share_strings H session n i z (j + 1) ps))
          → Memᴰ s (class_strings H session n i w ++ all_share_strings H session n i (j + 1) ps)
      split c r m = elim (Memᴰ.append_cases (class_strings H session n i w) m) [
        | inl a ↦ Memᴰ.append_left (all_share_strings H session n i (j + 1) ps) a
        | inr b ↦ Memᴰ.append_right (class_strings H session n i w) (rest c b)
      ]
        where
          rest : (c : Class) → Memᴰ s (unless_valid c (share_strings H session n i z (j + 1) ps)) → Memᴰ s (all_share_strings H session n i (j + 1) ps)
          rest silent b = r b
          rest faulty b = r b
          rest (valid x p) b = absurd (Memᴰ.not-nil b)

      go : Way (eqb j i) → (c : Class) → class_of H session n i z w ≡ c → (Memᴰ s (share_strings H session n i z (j + 1) ps) → Memᴰ s (all_share_strings H session n i (j + 1) ps))
          → Memᴰ s (cond (eqb j i) [] (class_strings H session n i w) ++ all_share_strings H session n i (j + 1) ps)
      go (on a) c q r = rw a (r (rw a at h))
      go (off a) c q r = rw a (split c r (rw (a, q) at h))

-- what step 5 gathers under each number
pub gathered-at : (H : List ℕ → List ℕ) (x : Party) (j : ℕ) (ps : List (List ℕ)) (k : ℕ) → k < length ps
    → get_or (gathered H x j ps) k []
    ≡ cond (eqb (j + k) x.seat.own) (share_held x) (share_from (class_of H x.seat.session x.seat.n (j + k) x.root (get_or ps k [])))
unfolding gathered
gathered-at H x j [] k l = absurd (omega arith)
gathered-at H x j (w ∷ ps) zero l =
    ap (λ (u : ℕ). cond (eqb u x.seat.own) (share_held x) (share_from (class_of H x.seat.session x.seat.n u x.root w))) (sym (add-zero j))
gathered-at H x j (w ∷ ps) (suc k) l =
    let e : j + 1 + k ≡ j + suc k = omega arith in
    gathered-at H x (j + 1) ps k (omega arith)
    ∙ ap (λ (u : ℕ). cond (eqb u x.seat.own) (share_held x) (share_from (class_of H x.seat.session x.seat.n u x.root (get_or ps k [])))) e

pub gathered-length : (H : List ℕ → List ℕ) (x : Party) (j : ℕ) (ps : List (List ℕ)) → length (gathered H x j ps) ≡ length ps
unfolding gathered
gathered-length H x j [] = refl
gathered-length H x j (w ∷ ps) = ap suc (gathered-length H x (j + 1) ps)
