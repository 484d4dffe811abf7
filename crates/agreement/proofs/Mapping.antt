-- The maps of all calls of a list, refused ones too: what holds of the empty map, of that of the first state and of those of accepted calls holds before and after
-- every call, and at the end. A refused call keeps the state and gives no map. By induction over the calls. Assumes nothing.
use mathlib.Core.Path.{◌≡◌, refl, sym, subst}
use mathlib.Core.Logic.{◌⊎◌, inl, inr}
use mathlib.Core.List.Memᴰ
use mathlib.Core.List.{List, [], ◌∷◌, Memᴰ}
use Prim.Native.Nat.{ℕ}
use borrow.Author.Tests.{eqb-false}
use lib.Dec.{eqb}
use Rattle.party.specs.declared.Party.{Party}
use Rattle.party.proofs.Ways.{Way, on, off, way}
use Rattle.agreement.specs.Calls.{Call, Event, accepted, made, events, final}
use Rattle.agreement.proofs.Run.{event, refused-keeps, refused-mapless}

module _ (H : List ℕ → List ℕ) (Q : ℕ → Type 0) (none : Q 0) where
  abbrev Accepted : Party → List Call → Type 0
  Accepted x cs = (d : Event) → Memᴰ d (accepted (events H x cs)) → Q d.reply.state.faulty × Q d.reply.faulty

  abbrev pub All : Event → Type 0
  All e = Q e.before.faulty × Q e.reply.state.faulty × Q e.reply.faulty

  step-maps : (x : Party) (c : Call) (cs : List Call) → Q x.faulty → Accepted x (c ∷ cs)
      → Q (made H x c).state.faulty × Q (made H x c).faulty × Accepted (made H x c).state cs
  unfolding accepted events
  step-maps x c cs q f = go (way (eqb (made H x c).cause 0))
    where
      go : Way (eqb (made H x c).cause 0) → Q (made H x c).state.faulty × Q (made H x c).faulty × Accepted (made H x c).state cs
      go (on y) =
          let a = f (event H x c) (rw y (Memᴰ.head refl)) in
          (a.0, a.1, λ d h. f d (rw y (Memᴰ.tail h)))
      go (off y) =
          let d = eqb-false (made H x c).cause 0 y in (
            subst (λ (s : Party). Q s.faulty) (sym (refused-keeps H x c d)) q,
            subst Q (sym (refused-mapless H x c d)) none,
            λ d h. f d (rw y h),
          )

  pub every_map : (x : Party) (cs : List Call) → Q x.faulty → Accepted x cs → (e : Event) → Memᴰ e (events H x cs) → All e
  unfolding events
  every_map x [] q f e h = absurd (Memᴰ.not-nil h)
  every_map x (c ∷ cs) q f e h =
      let s = step-maps x c cs q f in
      go (s.0, s.1) (Memᴰ.cases_cons h) (every_map (made H x c).state cs s.0 s.2 e)
    where
      go : Q (made H x c).state.faulty × Q (made H x c).faulty → (e ≡ event H x c) ⊎ Memᴰ e (events H (made H x c).state cs)
          → (Memᴰ e (events H (made H x c).state cs) → All e) → All e
      go s (inl k) later = subst All (sym k) (q, s.0, s.1)
      go s (inr k) later = later k

  pub final-map : (x : Party) (cs : List Call) → Q x.faulty → Accepted x cs → Q (final H x cs).faulty
  unfolding final
  final-map x [] q f = q
  final-map x (c ∷ cs) q f = let s = step-maps x c cs q f in final-map (made H x c).state cs s.0 s.2
