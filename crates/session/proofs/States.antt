-- The states of good parties, each at its place: one more after a step, and those still to come. Assumes nothing.
use mathlib.Core.Path.{◌≡◌, sym, ap, ap₂, ◌∙◌}
use mathlib.Core.Bool.{false, true≢false}
use mathlib.Core.List.{List}
use Prim.Native.Nat.{ℕ, ◌+◌, ◌*◌, ◌<◌, ◌≤◌}
use native.Mathlib.Decide.{ℕ_discrete}
use native.Mathlib.Omega.{arith}
use lib.ListN.{length, get_or, set}
use lib.Seq.{get_or-set_same, get_or-set_other}
use Rattle.party.specs.declared.Party.{Party}
use Rattle.buffer.specs.Splice.{spliced}
use Rattle.plan.specs.Layout.{n_in, good_in}
use Rattle.exchange.proofs.Slots.{slots-none, slots-skip, slots-more}
use Rattle.session.specs.Session.{is_good, max_outbox, wrote_in}
use Rattle.session.specs.Private.{step_for, state_for, States, Turn}
use Rattle.session.specs.declared.Outgoing.{Outgoing}
use Rattle.session.specs.declared.Step.{Step}

module _ (s : List ℕ) (f : ℕ → Party) where
  -- those before place k, with the one there, or without it where the party is bad
  pub states-more : (k : ℕ) (x : Party) (l m : List Party) → m ≡ set l k x → x ≡ f (k + 1) → k < length l → States s f 0 k l
      → States s f 0 (k + 1) m
  states-more k x l m em ex few old d j a h g = elim (ℕ_discrete j k) [
    | yes e ↦
        ap₂ (λ (y : List Party) (i : ℕ). get_or y i d) em e ∙ get_or-set_same l k x d few ∙ ex ∙ ap (λ (i : ℕ). f (i + 1)) (sym e)
    | no ne ↦ ap (λ (y : List Party). get_or y j d) em ∙ get_or-set_other l k j x d ne ∙ old d j (omega arith) (omega arith) g
  ]

  pub states-skip : (k : ℕ) (l m : List Party) → m ≡ l → is_good s (k + 1) ≡ false → States s f 0 k l → States s f 0 (k + 1) m
  states-skip k l m em bad old d j a h g = elim (ℕ_discrete j k) [
    | yes e ↦ absurd (true≢false (sym g ∙ ap (λ (i : ℕ). is_good s (i + 1)) e ∙ bad))
    | no ne ↦ ap (λ (y : List Party). get_or y j d) em ∙ old d j (omega arith) (omega arith) g
  ]

  -- those from place k on, without the one there
  pub states-later : (k n : ℕ) (x : Party) (l m : List Party) → m ≡ set l k x → States s f k n l → States s f (k + 1) n m
  states-later k n x l m em old d j a h g =
      ap (λ (y : List Party). get_or y j d) em ∙ get_or-set_other l k j x d (λ e. omega arith) ∙ old d j (omega arith) h g

  pub states-past : (k n : ℕ) (l m : List Party) → m ≡ l → States s f k n l → States s f (k + 1) n m
  states-past k n l m em old d j a h g = ap (λ (y : List Party). get_or y j d) em ∙ old d j (omega arith) h g

-- a round: before its first turn, and after one more, with or without a good party
module _ (s : List ℕ) (step : Step) where
  abbrev W : ℕ → List ℕ
  W p = wrote_in (step_for step s p)

  abbrev A : ℕ → Party
  A p = (step_for step s p).state

  pub turn-none : (l : List Party) (a : Outgoing) → States s (state_for step s) 0 (n_in s) l → Turn s step 0 l a
  turn-none l a h =
      record { wrote = slots-none (good_in s) max_outbox W a.slots a.lens; moved = λ d j x y g. absurd (omega arith); waiting = h }

  pub turn-more : (j at len : ℕ) (x : Party) (l m : List Party) (a b : Outgoing) → j < length l → at ≤ length a.slots → j < length a.lens
      → at ≡ j * max_outbox → x ≡ A (j + 1) → len ≡ length (W (j + 1)) → len ≤ max_outbox → m ≡ set l j x
      → b.slots ≡ spliced a.slots at (W (j + 1)) → b.lens ≡ set a.lens j len → Turn s step j l a → Turn s step (j + 1) m b
  turn-more j at len x l m a b hl ha hs ea ex el short em eb es t =
      record {
        wrote = slots-more (good_in s) max_outbox W j at len a.slots a.lens b.slots b.lens ea el eb es short ha hs t.wrote;
        moved = states-more s A j x l m em ex hl t.moved;
        waiting = states-later s (state_for step s) j (n_in s) x l m em t.waiting;
      }

  pub turn-skip : (j : ℕ) (l m : List Party) (a b : Outgoing) → is_good s (j + 1) ≡ false → m ≡ l → b ≡ a → Turn s step j l a → Turn s step (j + 1) m b
  turn-skip j l m a b bad em eb t =
      record {
        wrote = slots-skip (good_in s) max_outbox W j a.slots a.lens b.slots b.lens (ap (λ (o : Outgoing). o.slots) eb) (ap (λ (o : Outgoing). o.lens) eb) bad t.wrote;
        moved = states-skip s A j l m em bad t.moved;
        waiting = states-past s (state_for step s) j (n_in s) l m em t.waiting;
      }
