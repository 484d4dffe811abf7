-- The text of a rehearsal: how long a line is, bytes given at a place of the text, and the lines so far; what a party ends with, and the
-- outcomes of a rehearsal. By the laws of writing into a buffer, and by the tests of the definitions. Assumes nothing.
use mathlib.Core.Path.{◌≡◌, refl, sym, ap, ap₂, ◌∙◌}
use mathlib.Core.Bool.{Bool, true, false, cond, not}
use mathlib.Core.List.{List, [], ◌∷◌, ◌++◌, append_assoc}
use Prim.Native.Nat.{ℕ, zero, suc, ◌+◌, ◌-◌, ◌*◌, ◌/◌, ◌%◌, ◌≤◌}
use native.Mathlib.Decide.{ℕ_discrete}
use native.Mathlib.Omega.{arith}
use borrow.Author.Tests.{le-ltb, ltb-false, eq-eqb, ne_eqb}
use lib.Dec.{ltb, eqb}
use lib.ListN.{length, take, drop, replicate, length-append, length-drop, length-replicate}
use lib.Seq.{length-take-le, take_at}
use Rattle.std.specs.Prelude.{Option, Some, None, IfSome, unwrap_or}
use Rattle.limits.specs.Limits.{max_message}
use Rattle.buffer.specs.Splice.{spliced}
use Rattle.buffer.specs.Given.{Given, gave, value_of, written}
use Rattle.buffer.specs.Given.{Written}
use Rattle.buffer.specs.Given.{Refused, Done}
use Rattle.buffer.proofs.Given.{written-done}
use Rattle.party.specs.State.{Result, nothing, settled, result_from}
use Rattle.party.specs.Steps.{result_given, refused, ending, relays_cause, result_of, faulty_of, take_relays_of}
use Rattle.party.specs.declared.Party.{Party}
use Rattle.party.specs.Answer.{Answer}
use Rattle.party.specs.Answer as answer
use Rattle.buffer.proofs.Parts.{tail-spliced, part-rest}
use Rattle.exchange.proofs.Sending.{given-done}
use Rattle.plan.specs.Layout.{n_in}
use Rattle.plan.specs.Plan.{plan_cause, plan_of}
use Rattle.report.specs.Output.{digits, decimal, shown, line, sent_line, line_of, sent_line_of}
use Rattle.report.proofs.Hexes.{length-hex}
use Rattle.session.specs.Session.{or_nothing, line_with, is_good, agreed_bit, step4, second_inbox, step5, ends_with, lines_from, sent_from}
use Rattle.session.specs.Session.{unlawful, session_cause, output, rehearse_of}
use Rattle.session.specs.Private.{max_line, message_in, message_length}

-- the length of a line
digits-short : (k x : ℕ) → length (digits k x) ≤ k
unfolding digits
digits-short zero x = omega arith
digits-short (suc k) x = go (ltb x 10) (digits-short k (x / 10))
  where
    go : (b : Bool) → length (digits k (x / 10)) ≤ k → length (cond b [] (digits k (x / 10)) ++ ((0x30 + x % 10) ∷ [])) ≤ suc k
    go true h = omega arith
    go false h = omega (arith, length-append (digits k (x / 10)) ((0x30 + x % 10) ∷ []))

shown-short : (some : Bool) (m : List ℕ) → length m ≤ max_message → length (shown some m) ≤ 2 + 2 * max_message
shown-short false m h = omega arith
shown-short true [] h = omega arith
shown-short true (x ∷ m) h = omega (arith, length-hex (x ∷ m))

pub line-short : (p : ℕ) (some : Bool) (m : List ℕ) → length m ≤ max_message → length (line p some m) ≤ max_line
unfolding line
line-short p some m h =
    omega (
      arith,
      length-append (decimal p) (0x20 ∷ (shown some m ++ (0x0A ∷ []))),
      length-append (shown some m) (0x0A ∷ []),
      digits-short 20 p,
      shown-short some m h,
    )

pub sent-short : (x : ℕ) → length (sent_line x) ≤ max_line
unfolding sent_line
sent-short x = omega (arith, length-append (decimal x) (0x0A ∷ []), digits-short 20 x)

pub line-written : (p : ℕ) (some : Bool) (m out : List ℕ) → length m ≤ max_message → line_of p some m out ≡ written (line p some m) out
unfolding line_of
line-written p some m out h = rw (le-ltb max_message (length m) h)

pub sent-written : (x : ℕ) (out : List ℕ) → sent_line_of x out ≡ written (sent_line x) out
unfolding sent_line_of
sent-written x out = refl

-- the answer for a line, where there is room for it
pub line-given : (p : ℕ) (some : Bool) (m out : List ℕ) (r : Written) (o : List ℕ) → length m ≤ max_message → max_line ≤ length out
    → gave r o ≡ line_of p some m out
    → (value_of r ≡ length (line p some m)) × (value_of r ≤ max_line) × (o ≡ spliced out 0 (line p some m))
line-given p some m out r o short long e =
    let s = line-short p some m short in
    let g = given-done (line p some m) out r o (omega (arith, s)) (e ∙ line-written p some m out short) in
    (g.0, omega (arith, g.0, s), g.1)

-- what is written at the start of a part that reaches to the end stands in the whole
pub part-written : (o w : List ℕ) (at k : ℕ) (x : List ℕ) → k ≡ length o - at → x ≡ spliced (take k (drop at o)) 0 w
    → take at o ++ (x ++ drop k (drop at o)) ≡ spliced o at w
part-written o w at k x e h =
    ap (λ (z : List ℕ). take at o ++ (z ++ drop k (drop at o)))
    (h ∙ ap (λ (z : List ℕ). spliced z 0 w) (ap (λ (i : ℕ). take i (drop at o)) e ∙ part-rest o at))
    ∙ tail-spliced o w at k e

-- bytes given at the start of what follows a place stand at that place
pub given-at : (o w : List ℕ) (at : ℕ) (r : Written) (x : List ℕ) → at + length w ≤ length o
    → gave r x ≡ written w (take (length o - at) (drop at o))
    → (value_of r ≡ length w) × (take at o ++ (x ++ drop (length o - at) (drop at o)) ≡ spliced o at w)
given-at o w at r x room e =
    let g : gave r x ≡ gave (Done (length w)) (spliced (drop at o) 0 w) =
    e ∙ ap (written w) (part-rest o at) ∙ written-done w (drop at o) (omega (arith, length-drop at o)) in (
      ap (λ (y : Given). y.value) g,
      ap (λ (y : Given). take at o ++ (y.buffer ++ drop (length o - at) (drop at o))) g ∙ tail-spliced o w at (length o - at) refl,
    )

-- what then stands before the place behind them
pub take_behind : (o o' w : List ℕ) (at r : ℕ) → at ≤ length o → r ≡ length w → o' ≡ spliced o at w → take (at + r) o' ≡ take at o ++ w
unfolding spliced
take_behind o o' w at r inside er eo =
    let back : List ℕ = drop (at + length w) o in
    let front : List ℕ = take at o ++ w in
    let long : length front ≡ at + r = omega (arith, length-append (take at o) w, length-take-le at o inside) in
    ap (take (at + r)) (eo ∙ sym (append_assoc (take at o) w back)) ∙ take_at front back (at + r) long

module _ (H : List ℕ → List ℕ) (s : List ℕ) where
  -- the lines of k parties from p on
  pub lines_end : (k p : ℕ) → k ≡ 0 → lines_from H s k p ≡ []
  unfolding lines_from
  lines_end k p e = rw e

  module _ (j k p : ℕ) (e : k ≡ suc j) where
    lines-good : is_good s p ≡ true → lines_from H s k p ≡ line_with p (ends_with H s p) ++ lines_from H s j (p + 1)
    unfolding lines_from
    lines-good g = rw (e, g)

    -- a line more, behind those before it
    pub lines_more : (o o' : List ℕ) (at r : ℕ) → is_good s p ≡ true → at ≤ length o → r ≡ length (line_with p (ends_with H s p))
        → o' ≡ spliced o at (line_with p (ends_with H s p)) → take at o ++ lines_from H s k p ≡ take (at + r) o' ++ lines_from H s j (p + 1)
    lines_more o o' at r g inside er eo =
        let l : List ℕ = line_with p (ends_with H s p) in
        ap (λ (x : List ℕ). take at o ++ x) (lines-good g) ∙ sym (append_assoc (take at o) l (lines_from H s j (p + 1)))
        ∙ ap (λ (x : List ℕ). x ++ lines_from H s j (p + 1)) (sym (take_behind o o' l at r inside er eo))

    pub lines-bad : is_good s p ≡ false → lines_from H s k p ≡ lines_from H s j (p + 1)
    unfolding lines_from
    lines-bad g = rw (e, g)

  -- what a party ends with
  pub ends-zero : (q : ℕ) → agreed_bit H s ≡ 0 → ends_with H s q ≡ nothing
  unfolding ends_with
  ends-zero q h = rw (eq-eqb (agreed_bit H s) 0 h)

  pub ends-later : (q : ℕ) → (agreed_bit H s ≡ 0 → ⊥) → ends_with H s q ≡ or_nothing (step5 H s q).result
  unfolding ends_with
  ends-later q h = rw (ne_eqb (agreed_bit H s) 0 h)

-- a message that was given lies within the buffer
ending-room : (x : Party) (r : Result) (f : ℕ) (out : List ℕ) → message_length (ending x r f out).answer ≤ length out
ending-room x nothing f out = omega arith
ending-room x (settled m) f out = go (ltb (length out) (length m)) refl
  where
    go : (b : Bool) → ltb (length out) (length m) ≡ b → message_length (ending x (settled m) f out).answer ≤ length out
    go true e = rw e (omega arith)
    go false e = rw e (ltb-false (length out) (length m) e)

module _ (H : List ℕ → List ℕ) where
  relays-room : (x : Party) (inbox out : List ℕ) → message_length (take_relays_of H x inbox out).answer ≤ length out
  unfolding take_relays_of
  relays-room x inbox out = go (not (eqb (relays_cause x inbox) 0))
    where
      go : (b : Bool)
          → message_length (cond b (refused x (relays_cause x inbox) out) (ending x (result_of H x inbox) (faulty_of H x inbox) out)).answer ≤ length out
      go true = omega arith
      go false = ending-room x (result_of H x inbox) (faulty_of H x inbox) out

  pub message-room : (s : List ℕ) (q : ℕ) → message_length (step5 H s q).answer ≤ max_message
  unfolding step5
  message-room s q =
      omega (
        arith,
        relays-room (step4 H s q).state (second_inbox H s q) (replicate max_message 0),
        length-replicate {A = ℕ} max_message 0,
      )

-- what a party ends with, by the length of its message
pub some-within : (o : Option ℕ) (k : ℕ) → unwrap_or o 0 ≤ k → IfSome o (λ l. l ≤ k)
some-within None k h = tt
some-within (Some l) k h = h

pub given-from : (a : Answer) (o : List ℕ) → result_from (message_in a) o ≡ or_nothing (result_given a o)
given-from (answer.Refused k) o = refl
given-from (answer.Short l) o = refl
given-from (answer.Happy b) o = refl
given-from (answer.Sent l) o = refl
given-from (answer.Nothing f) o = refl
given-from (answer.Message l f) o = refl

-- the outcomes of a rehearsal
pub cause-is : (s : List ℕ) → (plan_of s).cause ≡ plan_cause s
unfolding plan_of
cause-is s =
    elim (ℕ_discrete (plan_cause s) 0) [
      | yes e ↦ rw e
      | no ne ↦ rw (ne_eqb (plan_cause s) 0 ne)
    ]

module _ (H : List ℕ → List ℕ) (s : List ℕ) where
  pub output-is : (l : List ℕ) (x : ℕ) → l ≡ lines_from H s (n_in s) 1 → x ≡ sent_from H s (n_in s) 1 → l ++ sent_line x ≡ output H s
  unfolding output
  output-is l x e h = ap₂ (λ (y : List ℕ) (k : ℕ). y ++ sent_line k) e h

  module _ (out : List ℕ) where
    pub away-plan : (plan_cause s ≡ 0 → ⊥) → rehearse_of H s out ≡ gave (Refused (plan_cause s)) out
    unfolding rehearse_of session_cause
    away-plan h = let e = ne_eqb (plan_cause s) 0 h in rw (e, e)

    pub away-unlawful : plan_cause s ≡ 0 → unlawful H s ≡ true → rehearse_of H s out ≡ gave (Refused 14) out
    unfolding rehearse_of session_cause
    away-unlawful h e = rw (h, e)

    pub played : plan_cause s ≡ 0 → unlawful H s ≡ false → rehearse_of H s out ≡ written (output H s) out
    unfolding rehearse_of session_cause
    played h e = rw (h, e)
