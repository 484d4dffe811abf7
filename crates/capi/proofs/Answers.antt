-- The answers of the calls: the number, the state and the buffer that the functions gave are those of the definition. One law for each outcome.
-- Assumes nothing.
use mathlib.Core.Path.{◌≡◌, refl, sym, ap, ap₂, ◌∙◌}
use mathlib.Core.List.{List}
use mathlib.Core.Option.{Option, none, some}
use Prim.Native.Nat.{ℕ, ◌<◌, ◌≤◌, ◌^◌}
use native.Mathlib.Decide.{dec_lt}
use native.Mathlib.Omega.{arith}
use borrow.Author.Tests.{lt-ltb, le-ltb, eq-eqb, ne_eqb}
use lib.ListN.{length}
use Rattle.std.specs.Prelude.{Result as Answered, Ok, Err}
use Rattle.cause.specs.declared.Cause.{Cause}
use Rattle.cause.specs.declared.Refusal.{Refusal}
use Rattle.cause.specs.declared.Refusal.TheVariants as refusal
use Rattle.cause.proofs.Numbers.{number-nonzero}
use Rattle.buffer.specs.Given.{said, cause_of, value_of, written}
use Rattle.sha256.specs.Sha256.{sha256}
use Rattle.party.specs.State.{Result, nothing, settled}
use Rattle.party.specs.Steps.{open_of, Stepped, stepped}
use Rattle.party.specs.Answer.{opened_by, value_by}
use Rattle.party.specs.Sender.{message_by, packet_by, sender_cause, Begun, begun, open_by_sender_of}
use Rattle.party.specs.declared.Begun.{Begun as Started}
use Rattle.party.specs.declared.OpenedBySender.{OpenedBySender}
use Rattle.party.proofs.Sender.{cause-bounds, begun-short, begun-given}
use Rattle.party.proofs.Sender.{value-fits as value-small}
use Rattle.party.proofs.Outcomes as party
use Rattle.party.specs.Answer.{Opened}
use Rattle.party.specs.declared.Party.{Party}
use Rattle.party.specs.declared.Reply.{Reply}
use Rattle.state_bytes.specs.Layout.{state_length, state_bytes, state_of}
use Rattle.agreement.specs.Calls.{Call, made}
use Rattle.capi.specs.Calls.{packed, replies, value_shown, number_of, over, open_call, opens, open_by_sender_call, called}

-- the value of an answer fits its half
pub value-fits : (r : Option Result) (f v : ℕ) → v < 2 ^ 32 → f < 2 ^ 31 → value_shown r f v < 2 ^ 32
value-fits none f v h g = h
value-fits (some nothing) f v h g = omega (arith, g)
value-fits (some (settled m)) f v h g = omega (arith, g)

-- a reply over the bytes of the state, accepted or refused
module _ (s : List ℕ) (r : Stepped) where
  pub over-written : r.cause ≡ 0 → over s r ≡ replies (number_of r) (written (state_bytes r.state) s).buffer r.buffer
  over-written e = rw (eq-eqb r.cause 0 e)

  pub over-left : (r.cause ≡ 0 → ⊥) → over s r ≡ replies (number_of r) s r.buffer
  over-left h = rw (ne_eqb r.cause 0 h)

-- a step on the state that was read, finished
pub step-told : (H : List ℕ → List ℕ) (s : List ℕ) {S o : List ℕ} {p : ℕ} {x : Party} (c : Call) (r : Reply) → x ≡ state_of s → stepped r o ≡ made H x c
    → ((out : List ℕ) → replies p S out ≡ over s (stepped r out)) → replies p S o ≡ called H s c
unfolding called
step-told H s {o = o} c r q e f = f o ∙ ap (over s) (e ∙ ap (λ (y : Party). made H y c) q)

-- the opening
module _ (H : List ℕ → List ℕ) (session n t own : ℕ) (m s z : List ℕ) where
  pub open-refused : ((open_of H session n t own m).cause ≡ 0 → ⊥) → open_call H session n t own m s z ≡ replies (packed (open_of H session n t own m).cause 0) s z
  unfolding open_call
  open-refused h = rw (ne_eqb (open_of H session n t own m).cause 0 h)

  module _ (fine : (open_of H session n t own m).cause ≡ 0) where
    pub open-state : length s < state_length → open_call H session n t own m s z ≡ replies (packed 9 state_length) s z
    unfolding open_call
    open-state h = rw (eq-eqb (open_of H session n t own m).cause 0 fine, lt-ltb (length s) state_length h)

    module _ (long : state_length ≤ length s) where
      pub open-root : length z < 32 → open_call H session n t own m s z ≡ replies (packed 9 32) s z
      unfolding open_call
      open-root h = rw (eq-eqb (open_of H session n t own m).cause 0 fine, le-ltb (length s) state_length long, lt-ltb (length z) 32 h)

      pub open_done : 32 ≤ length z → open_call H session n t own m s z
          ≡ replies (packed 0 32) (written (state_bytes (open_of H session n t own m).state) s).buffer (written (open_of H session n t own m).root z).buffer
      unfolding open_call
      open_done h = rw (eq-eqb (open_of H session n t own m).cause 0 fine, le-ltb (length s) state_length long, le-ltb (length z) 32 h)

-- the opening by a named sender
module _ (H : List ℕ → List ℕ) (session n t own q : ℕ) (bs s z out : List ℕ) where
  abbrev begins : Begun
  begins = open_by_sender_of H session n t own q bs out

  pub sender-refused : (sender_cause n t own q bs ≡ 0 → ⊥)
      → open_by_sender_call H session n t own q bs s z out ≡ opens (packed (sender_cause n t own q bs) 0) s z out
  unfolding open_by_sender_call
  sender-refused h = rw (ne_eqb (sender_cause n t own q bs) 0 h)

  module _ (fine : sender_cause n t own q bs ≡ 0) where
    pub sender-state : length s < state_length → open_by_sender_call H session n t own q bs s z out ≡ opens (packed 9 state_length) s z out
    unfolding open_by_sender_call
    sender-state h = rw (eq-eqb (sender_cause n t own q bs) 0 fine, lt-ltb (length s) state_length h)

    module _ (long : state_length ≤ length s) where
      pub sender-root : length z < 32 → open_by_sender_call H session n t own q bs s z out ≡ opens (packed 9 32) s z out
      unfolding open_by_sender_call
      sender-root h = rw (eq-eqb (sender_cause n t own q bs) 0 fine, le-ltb (length s) state_length long, lt-ltb (length z) 32 h)

      module _ (wide : 32 ≤ length z) where
        pub sender-short : (begins.opened.cause ≡ 0 → ⊥)
            → open_by_sender_call H session n t own q bs s z out ≡ opens (packed begins.opened.cause begins.value) s z out
        unfolding open_by_sender_call
        sender-short h =
            rw (
              eq-eqb (sender_cause n t own q bs) 0 fine,
              le-ltb (length s) state_length long,
              le-ltb (length z) 32 wide,
              ne_eqb begins.opened.cause 0 h,
            )

        pub sender-done : begins.opened.cause ≡ 0 → open_by_sender_call H session n t own q bs s z out
            ≡ opens (packed 0 begins.value) (written (state_bytes begins.opened.state) s).buffer (written begins.opened.root z).buffer begins.buffer
        unfolding open_by_sender_call
        sender-done h =
            rw (
              eq-eqb (sender_cause n t own q bs) 0 fine,
              le-ltb (length s) state_length long,
              le-ltb (length z) 32 wide,
              eq-eqb begins.opened.cause 0 h,
            )

  -- a packet that does not fit leaves its buffer
  pub sender-kept : sender_cause n t own q bs ≡ 0 → (begins.opened.cause ≡ 0 → ⊥) → begins.buffer ≡ out
  sender-kept fine h = elim (dec_lt (length out) (length (packet_by n own q bs))) [
    | yes l ↦ ap (λ (r : Begun). r.buffer) (begun-short n t own q bs H session out fine l)
    | no d ↦ absurd (h (ap (λ (r : Begun). r.opened.cause) (begun-given n t own q bs H session out fine (omega arith))
        ∙ ap (λ (o : Opened). o.cause) (party.open-given H session n t own (message_by own q bs) (cause-bounds n t own q bs fine).0)))
  ]

-- what a refused opening by a named sender tells
module _ (session n t own q : ℕ) (bs out : List ℕ) (r : OpenedBySender) (new : List ℕ) (e : Refusal Cause)
    (gives : begun r new ≡ open_by_sender_of sha256 session n t own q bs out) (short : r.answer ≡ Err e) where
  cause-told : (open_by_sender_of sha256 session n t own q bs out).opened.cause ≡ cause_of (said (Err e))
  cause-told = sym (ap (λ (b : Begun). b.opened.cause) gives) ∙ ap (λ (a : Answered Started (Refusal Cause)). (opened_by r.state a).cause) short ∙ of-cause e
    where
      of-cause : (k : Refusal Cause) → (opened_by r.state (Err k)).cause ≡ cause_of (said (Err k))
      of-cause (refusal.Because c) = refl
      of-cause (refusal.Short l) = refl

  value-told : (open_by_sender_of sha256 session n t own q bs out).value ≡ value_of (said (Err e))
  value-told = sym (ap (λ (b : Begun). b.value) gives) ∙ ap value_by short ∙ of-value e
    where
      of-value : (k : Refusal Cause) → value_by (Err k) ≡ value_of (said (Err k))
      of-value (refusal.Because c) = refl
      of-value (refusal.Short l) = refl

  refused-told : (open_by_sender_of sha256 session n t own q bs out).opened.cause ≡ 0 → ⊥
  refused-told h = nonzero e (sym cause-told ∙ h)
    where
      nonzero : (k : Refusal Cause) → cause_of (said (Err k)) ≡ 0 → ⊥
      nonzero (refusal.Because c) = number-nonzero c
      nonzero (refusal.Short l) = omega arith

  pub short-fits : value_of (said (Err e)) < 2 ^ 32
  short-fits = omega (arith, value-told, value-small n t own q bs sha256 session out)

  pub short-told : (s z : List ℕ) (p : ℕ) → sender_cause n t own q bs ≡ 0 → state_length ≤ length s → 32 ≤ length z → p ≡ packed (cause_of (said (Err e))) (value_of (said (Err e)))
      → opens p s z new ≡ open_by_sender_call sha256 session n t own q bs s z out
  short-told s z p fine long wide told =
      let number = told ∙ ap₂ packed (sym cause-told) (sym value-told) in
      let kept = ap (λ (b : Begun). b.buffer) gives ∙ sender-kept sha256 session n t own q bs s z out fine refused-told in
      ap₂ (λ (i : ℕ) (o : List ℕ). opens i s z o) number kept ∙ sym (sender-short sha256 session n t own q bs s z out fine long wide refused-told)

-- and the length of the packet that was written
pub begun-fits : (session n t own q : ℕ) (bs out : List ℕ) (r : OpenedBySender) (new : List ℕ) (b : Started)
    → begun r new ≡ open_by_sender_of sha256 session n t own q bs out → r.answer ≡ Ok b → b.len < 2 ^ 32
begun-fits session n t own q bs out r new b gives done =
    let same : b.len ≡ (open_by_sender_of sha256 session n t own q bs out).value = sym (ap value_by done) ∙ ap (λ (g : Begun). g.value) gives in
    omega (arith, same, value-small n t own q bs sha256 session out)

-- the parts of a reply
pub replies-are : (p P : ℕ) (s S o O : List ℕ) → p ≡ P → s ≡ S → o ≡ O → replies p s o ≡ replies P S O
replies-are p P s S o O qp qs qo = rw (qp, qs, qo)
