-- What a party finds at the end that is not happy: what it rebuilds from the shares gathered, if that has the agreed root, else nothing. By the answer of
-- rebuilding. Assumes nothing.
use Rattle.std.proofs.Common.{◌≡◌, Bool, true, false, cond, List, ℕ, ◌-◌, ◌≤◌, length, take, replicate, Result, Ok, refl, sym, ap, ◌∙◌, arith}
use Rattle.std.proofs.lemmas.List.{length-replicate, length-take-le}
use Rattle.cause.specs.declared.Cause.{Cause}
use Rattle.cause.specs.declared.Refusal.{Refusal}
use Rattle.sha256.specs.Sha256.{sha256}
use Rattle.limits.specs.Limits.{max_message}
use Rattle.buffer.specs.Entries.{bodies}
use Rattle.buffer.specs.Given.{Given, said, gave}
use Rattle.buffer.proofs.Given.{written-done}
use Rattle.erasure.specs.Rebuild.{Recovered, cause, message, present, answered, rebuild_at_of}
use Rattle.erasure.specs.declared.Place.{Place}
use Rattle.merkle.specs.Shares.{same}
use Rattle.commitment.specs.Commitment.{message_root}
use Rattle.commitment.specs.Rebuild.{under_root}
use Rattle.commitment.proofs.Answers.{said-done}
use Rattle.commitment.proofs.Rebuild.{Short, short-recovered, answer-found}
use Rattle.party.specs.State.{nothing, settled, share_held, happy}
use Rattle.party.specs.State.{Result as Found}
use Rattle.party.specs.Steps.{gathered, rebuilt, recovered_by, result_found}
use Rattle.party.specs.Private.{Fit, Gathered}
use Rattle.party.specs.declared.Party.{Party}
use Rattle.party.proofs.Outcomes.{found-rebuilt}
use Rattle.party.proofs.Taking.{rebuilt-of}

module _ (x : Party) (s : List ℕ) (f : Fit x) (ps : List Place) (g : Gathered x.seat.n (gathered sha256 x 1 (bodies x.seat.n s)) s (share_held x) ps)
    (r : Result ℕ (Refusal Cause)) (left : List ℕ) (given : gave (said r) left ≡ rebuild_at_of x.seat.n x.seat.t s (share_held x) ps (replicate max_message 0)) where
  abbrev Room : List ℕ
  Room = replicate max_message 0

  abbrev All : Recovered
  All = recovered_by sha256 x s

  abbrev Under : Recovered → Found
  Under a = rebuilt (under_root sha256 x.seat.session x.seat.n x.seat.t x.root a)

  told : gave (said r) left ≡ answered All Room
  told = given ∙ rebuilt-of sha256 x s ps Room f g

  short : Short All
  short = short-recovered (x.seat.n - x.seat.t) (present 1 (gathered sha256 x 1 (bodies x.seat.n s)))

  -- a message was rebuilt
  module _ (l : ℕ) (is : r ≡ Ok l) where
    found : (All ≡ message (take l left)) × (l ≤ max_message) × (l ≤ length left)
    found = answer-found left Room r (length-replicate {A = ℕ} max_message 0) All short told l is

    pub within : l ≤ length left
    within = found.2

    pub exact : length (take l left) ≡ l
    exact = length-take-le l left found.2

    pub fits : length (take l left) ≤ max_message
    fits = omega (arith, exact, found.1)

    pub result-is : (b : Bool) → happy sha256 x ≡ false → b ≡ same (message_root sha256 x.seat.session x.seat.n x.seat.t (take l left)) x.root
        → result_found sha256 x s ≡ cond b (settled (take l left)) nothing
    result-is b h e =
        found-rebuilt sha256 x s h ∙ ap Under found.0
        ∙ ap (λ (c : Bool). rebuilt (cond c (message (take l left)) (cause 15))) (sym e) ∙ go b
      where
        go : (c : Bool) → rebuilt (cond c (message (take l left)) (cause 15)) ≡ cond c (settled (take l left)) nothing
        go true = refl
        go false = refl

  -- none was
  pub result-none : ((l : ℕ) → r ≡ Ok l → ⊥) → happy sha256 x ≡ false → result_found sha256 x s ≡ nothing
  result-none d h = found-rebuilt sha256 x s h ∙ go All refl
    where
      go : (a : Recovered) → All ≡ a → Under All ≡ nothing
      go (cause k) e = ap Under e
      go (message m) e =
          let low : length m ≤ length Room = omega (arith, rw e at short, length-replicate {A = ℕ} max_message 0) in
          absurd (d (length m) (said-done r (length m) (ap (λ (a : Given). a.answer) (told ∙ ap (λ (a : Recovered). answered a Room) e ∙ written-done m Room low))))
