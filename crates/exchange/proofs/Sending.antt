-- What a party sends to another, by whether it is that party itself, good or bad; an inbox depends on what good parties wrote alone; and the
-- outcomes of filling one. By the tests of the definitions. Assumes nothing.
use mathlib.Core.Path.{◌≡◌, refl, sym, ap, ◌∙◌}
use mathlib.Core.Bool.{Bool, true, false, cond}
use mathlib.Core.List.{List, [], ◌∷◌, ◌++◌}
use Prim.Native.Nat.{ℕ, zero, suc, ◌+◌, ◌-◌, ◌≤◌, ◌<◌}
use native.Mathlib.Omega.{arith}
use borrow.Author.Tests.{ne_eqb, le-ltb}
use lib.Dec.{eqb}
use lib.ListN.{length}
use Rattle.limits.specs.Limits.{max_entry, max_plan, parties, numbered}
use Rattle.buffer.specs.Splice.{spliced, tabulate}
use Rattle.buffer.specs.Entries.{entry_at}
use Rattle.std.specs.Prelude.{Result, Ok, Err}
use Rattle.cause.specs.declared.Cause.{Cause}
use Rattle.cause.specs.declared.Refusal.{Refusal}
use Rattle.cause.specs.declared.Refusal.TheVariants.{Because, Short}
use Rattle.buffer.specs.Given.{Given, said, gave, value_of, written}
use Rattle.buffer.specs.Given.{Written}
use Rattle.buffer.proofs.Given.{written-done}
use Rattle.buffer.specs.Given.{Done}
use Rattle.packet.specs.Inbox.{inbox_of}
use Rattle.bitmap.specs.Bitmap.{names}
use Rattle.plan.specs.Layout.{packet_from}
use Rattle.exchange.specs.Exchange.{sent_to, inbox_to, max_inbox, fill_of}
use Rattle.exchange.specs.Private.{inbox_by}
use Rattle.exchange.specs.declared.Mail.{Mail}

module _ (n g : ℕ) (whole : Bool) (wrote : ℕ → List ℕ) (blocks : List ℕ) (i p : ℕ) where
  module _ (other : p ≡ i → ⊥) where
    pub sent-good : names g p ≡ true → sent_to n g whole wrote blocks i p ≡ cond whole (wrote p) (entry_at (i - 1) (wrote p))
    unfolding sent_to
    sent-good h = rw (ne_eqb p i other, h)

-- bytes given into a buffer that has room for them
pub given-done : (f out : List ℕ) (a : Written) (o : List ℕ) → length f ≤ length out → gave a o ≡ written f out
    → (value_of a ≡ length f) × (o ≡ spliced out 0 f)
given-done f out a o room e =
    let w = e ∙ written-done f out room in
    (ap (λ (x : Given). x.value) w, ap (λ (x : Given). x.buffer) w)

-- the same by the result that says it
said-done : (r : Result ℕ (Refusal Cause)) (n : ℕ) → said r ≡ Done n → r ≡ Ok n
said-done (Ok k) n h = ap (λ (x : Written). Ok (value_of x)) h
said-done (Err (Because c)) n h = absurd (cc)
said-done (Err (Short k)) n h = absurd (cc)

pub ok-same : (r : Result ℕ (Refusal Cause)) (j k : ℕ) → r ≡ Ok j → r ≡ Ok k → j ≡ k
ok-same r j k a b = ap (λ (x : Result ℕ (Refusal Cause)). value_of (said x)) (sym a ∙ b)

pub given-ok : (f out : List ℕ) (r : Result ℕ (Refusal Cause)) (o : List ℕ) → length f ≤ length out → gave (said r) o ≡ written f out
    → (r ≡ Ok (length f)) × (o ≡ spliced out 0 f)
given-ok f out r o room e =
    let w = e ∙ written-done f out room in
    (said-done r (length f) (ap (λ (x : Given). x.answer) w), ap (λ (x : Given). x.buffer) w)

-- a list of values that are the same
tabulate-same : (k : ℕ) (f h : ℕ → List ℕ) → ((j : ℕ) → j < k → f j ≡ h j) → tabulate k f ≡ tabulate k h
unfolding tabulate
tabulate-same zero f h e = refl
tabulate-same (suc k) f h e =
    ap (λ (l : List (List ℕ)). l ++ (f k ∷ [])) (tabulate-same k f h (λ j l. e j (omega arith)))
    ∙ ap (λ (x : List ℕ). tabulate k h ++ (x ∷ [])) (e k (omega arith))

-- what bad parties wrote is not read
module _ (n g : ℕ) (whole : Bool) (f h : ℕ → List ℕ) (blocks : List ℕ) (i : ℕ)
    (same : (p : ℕ) → 1 ≤ p → p ≤ n → names g p ≡ true → f p ≡ h p) where
  sent-same : (p : ℕ) → 1 ≤ p → p ≤ n → sent_to n g whole f blocks i p ≡ sent_to n g whole h blocks i p
  unfolding sent_to
  sent-same p low high = go (names g p) refl
    where
      go : (b : Bool) → names g p ≡ b
          → cond (eqb p i) [] (cond b (cond whole (f p) (entry_at (i - 1) (f p))) (packet_from n g p i blocks))
          ≡ cond (eqb p i) [] (cond b (cond whole (h p) (entry_at (i - 1) (h p))) (packet_from n g p i blocks))
      go true e =
          ap (λ (x : List ℕ). cond (eqb p i) [] (cond whole x (entry_at (i - 1) x))) (same p low high e)
      go false e = refl

  pub inbox-same : inbox_to n g whole f blocks i ≡ inbox_to n g whole h blocks i
  unfolding inbox_to
  inbox-same =
      ap inbox_of
      (tabulate-same n (λ k. sent_to n g whole f blocks i (k + 1)) (λ k. sent_to n g whole h blocks i (k + 1))
      (λ k l. sent-same (k + 1) (omega arith) (omega arith)))

-- an inbox that is filled, for which there is no cause
pub fill_done : (m : Mail) (slots lens blocks : List ℕ) (i : ℕ) (out : List ℕ) → parties m.n ≡ true → numbered m.n i ≡ true → m.size ≤ max_entry
    → max_inbox m.n m.size ≤ length out → length blocks ≤ max_plan
    → fill_of m slots lens blocks i out ≡ gave (Done (length (inbox_by m slots lens blocks i))) (spliced out 0 (inbox_by m slots lens blocks i))
unfolding fill_of
fill_done m slots lens blocks i out a b c d e =
    rw (a, b, le-ltb max_entry m.size c, le-ltb (length out) (max_inbox m.n m.size) d, le-ltb max_plan (length blocks) e)
