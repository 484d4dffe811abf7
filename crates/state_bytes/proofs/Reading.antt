-- Laws of the state as bytes: what each function that reads or writes it needs. Assumes nothing.
use mathlib.Core.Path.{◌≡◌, refl, sym, ap, ap₂, ◌∙◌}
use mathlib.Core.Bool.{cond}
use mathlib.Core.List.{List, [], ◌∷◌, ◌++◌, append_assoc}
use Prim.Native.Nat.{ℕ, ◌+◌, ◌%◌, ◌^◌, ◌≤◌, ◌<◌}
use native.Mathlib.Decide.{ℕ_discrete, dec_lt}
use native.Mathlib.Omega.{arith}
use borrow.Author.Tests.{lt-ltb, le-ltb, eq-eqb, ne_eqb}
use lib.Dec.{eqb, lit<}
use lib.ListN.{length, get_or, take, drop, length-append, length-drop}
use lib.Seq.{length-take-le}
use Rattle.limits.specs.Limits.{max_message, max_share}
use Rattle.buffer.specs.Splice.{spliced, put_of}
use Rattle.buffer.specs.Numbers.{four_bytes}
use Rattle.buffer.specs.Given.{gave, written}
use Rattle.buffer.specs.Given as goal
use Rattle.buffer.proofs.Splice.{put-fits, length-spliced, spliced-more}
use Rattle.buffer.proofs.Given.{written-short, written-done}
use Rattle.std.specs.Int.{to_be_bytes, w32, w64}
use Rattle.party.specs.State.{seat_of, blank_state}
use Rattle.party.specs.declared.Stage.{Stage}
use Rattle.party.specs.declared.Party.{Party}
use Rattle.state_bytes.specs.Layout.{layout_version, root_place, head_length, state_length, stage_number, length_for, head_of, state_bytes, stage_of}
use Rattle.state_bytes.specs.Layout.{version_told, stage_told, length_told, held_told, session_told, faulty_told, read_in, state_of}

-- a part of a list has the length that was asked for, where the list is long enough
length_part : (at k : ℕ) (s : List ℕ) → at + k ≤ length s → length (take k (drop at s)) ≡ k
length_part at k s h = length-take-le k (drop at s) (omega (arith, length-drop at s))

-- bytes that say no state, and those that do
module _ (s : List ℕ) where
  pub state-short : length s < state_length → state_of s ≡ blank_state
  unfolding state_of
  state-short h = rw (lt-ltb (length s) state_length h)

  module _ (long : state_length ≤ length s) where
    pub state-other : (version_told s ≡ layout_version → ⊥) → state_of s ≡ blank_state
    unfolding state_of
    state-other h = rw (le-ltb (length s) state_length long, ne_eqb (version_told s) layout_version h)

    module _ (same : version_told s ≡ layout_version) where
      pub state-unknown : 5 < stage_told s → state_of s ≡ blank_state
      unfolding state_of
      state-unknown h = rw (le-ltb (length s) state_length long, eq-eqb (version_told s) layout_version same, lt-ltb 5 (stage_told s) h)

      pub state-read : stage_told s ≤ 5 → state_of s ≡ read_in s
      unfolding state_of
      state-read h = rw (le-ltb (length s) state_length long, eq-eqb (version_told s) layout_version same, le-ltb 5 (stage_told s) h)

-- the agreed root that bytes say has 32 of them
blank-32 : length blank_state.root ≡ 32
unfolding blank_state
blank-32 = refl

read-32 : (s : List ℕ) → state_length ≤ length s → length (read_in s).root ≡ 32
unfolding read_in
read-32 s h = length_part root_place 32 s (omega arith)

pub root-32 : (s : List ℕ) → length (state_of s).root ≡ 32
root-32 s = elim (dec_lt (length s) state_length) [
  | yes h ↦ ap (λ (x : Party). length x.root) (state-short s h) ∙ blank-32
  | no h ↦ let long : state_length ≤ length s = omega arith in
      elim (ℕ_discrete (version_told s) layout_version) [
        | yes v ↦ elim (dec_lt 5 (stage_told s)) [
          | yes k ↦ ap (λ (x : Party). length x.root) (state-unknown s long v k) ∙ blank-32
          | no k ↦ ap (λ (x : Party). length x.root) (state-read s long v (omega arith)) ∙ read-32 s long
        ]
        | no v ↦ ap (λ (x : Party). length x.root) (state-other s long v) ∙ blank-32
      ]
]

-- the session's number that bytes say has four of them
pub session-small : (s : List ℕ) → (state_of s).seat.session < 2 ^ 32
unfolding blank_state read_in
session-small s = elim (dec_lt (length s) state_length) [
  | yes h ↦ rw (state-short s h) (lit< tt)
  | no h ↦ let long : state_length ≤ length s = omega arith in
      elim (ℕ_discrete (version_told s) layout_version) [
        | yes v ↦ elim (dec_lt 5 (stage_told s)) [
          | yes k ↦ rw (state-unknown s long v k) (lit< tt)
          | no k ↦ rw (state-read s long v (omega arith)) (omega arith)
        ]
        | no v ↦ rw (state-other s long v) (lit< tt)
      ]
]

-- the numbers before the root
pub head-is : (x : Party) (n t own stage : ℕ) (len held session faulty : List ℕ) → n ≡ x.seat.n % 256 → t ≡ x.seat.t % 256 → own ≡ x.seat.own % 256
    → stage ≡ stage_number x.stage → len ≡ to_be_bytes w64 (length_for x.stage x.len) → held ≡ to_be_bytes w64 x.held
    → session ≡ to_be_bytes w32 x.seat.session → faulty ≡ to_be_bytes w32 x.faulty
    → layout_version ∷ n ∷ t ∷ own ∷ stage ∷ get_or len 6 0 ∷ get_or len 7 0 ∷ get_or held 6 0 ∷ get_or held 7 0
    ∷ get_or session 0 0 ∷ get_or session 1 0 ∷ get_or session 2 0 ∷ get_or session 3 0
    ∷ get_or faulty 0 0 ∷ get_or faulty 1 0 ∷ get_or faulty 2 0 ∷ get_or faulty 3 0 ∷ [] ≡ head_of x
unfolding head_of four_bytes
head-is x n t own stage len held session faulty qn qt qo qg ql qh qs qf = rw (qn, qt, qo, qg, ql, qh, qs, qf)

-- a state whose fields are those that the bytes say
pub fields-are : (s : List ℕ) (number len session n t own : ℕ) (stage : Stage) (message : List ℕ) (l : ℕ) (root share : List ℕ) (held map : ℕ)
    → number ≡ stage_told s → len ≡ length_told s → session ≡ session_told s → n ≡ get_or s 1 0 → t ≡ get_or s 2 0 → own ≡ get_or s 3 0 → stage ≡ stage_of number len
    → message ≡ take max_message (drop head_length s) → l ≡ cond (eqb number 5) 0 len → root ≡ take 32 (drop root_place s)
    → share ≡ take max_share (drop (head_length + max_message) s) → held ≡ held_told s → map ≡ faulty_told s
    → ◌≡◌ {A = Party} (record {
      seat = seat_of session n t own;
      stage = stage;
      message = message;
      len = l;
      root = root;
      share = share;
      held = held;
      faulty = map;
    }) (read_in s)
unfolding read_in
fields-are s number len session n t own stage message l root share held map qk ql qi qn qt qo qs qm qe qr qh qd qf =
    rw (qi, qn, qt, qo, qs, qm, qe, qr, qh, qd, qf, qk, ql)

-- the four parts of a state, written one behind the other
behind : (s l r : List ℕ) (at : ℕ) → at ≡ 0 + length l → length l + length r ≤ length s
    → put_of (spliced s 0 l) at r ≡ spliced s 0 (l ++ r)
behind s l r at e h =
    put-fits (spliced s 0 l) at r (omega (arith, e, length-spliced s 0 l (omega arith)))
    ∙ ap (λ (k : ℕ). spliced (spliced s 0 l) k r) e ∙ spliced-more s 0 l r (omega arith)

module _ (x : Party) (root : length x.root ≡ 32) (message : length x.message ≡ max_message) (share : length x.share ≡ max_share) where
  head-long : length (head_of x) ≡ root_place
  unfolding head_of four_bytes
  head-long = refl

  pub bytes-long : length (state_bytes x) ≡ state_length
  unfolding state_bytes
  bytes-long =
      length-append (head_of x) (x.root ++ (x.message ++ x.share))
      ∙ omega (
        arith,
        head-long,
        length-append x.root (x.message ++ x.share),
        length-append x.message x.share,
        root,
        message,
        share,
      )

  pub state-refused : (s : List ℕ) → length s < state_length → gave (goal.Short state_length) s ≡ written (state_bytes x) s
  state-refused s h = ap (λ (k : ℕ). gave (goal.Short k) s) (sym bytes-long) ∙ sym (written-short (state_bytes x) s (omega (arith, bytes-long)))

  spliced-all : (s a b c d head : List ℕ) → state_length ≤ length s → head ≡ head_of x → a ≡ put_of s 0 head → b ≡ put_of a root_place x.root
      → c ≡ put_of b head_length x.message → d ≡ put_of c (head_length + max_message) x.share → d ≡ spliced s 0 (state_bytes x)
  unfolding state_bytes
  spliced-all s a b c d head long qh qa qb qc qd =
      let h : List ℕ = head_of x in
      let r : List ℕ = x.root in
      let m : List ℕ = x.message in
      let y : List ℕ = x.share in
      let one : a ≡ spliced s 0 h = qa ∙ ap (put_of s 0) qh ∙ put-fits s 0 h (omega (arith, head-long)) in
      let two : b ≡ spliced s 0 (h ++ r) = qb ∙ ap (λ (l : List ℕ). put_of l root_place r) one
      ∙ behind s h r root_place (omega (arith, head-long)) (omega (arith, head-long, root)) in
      let lr : length (h ++ r) ≡ head_length = length-append h r ∙ omega (arith, head-long, root) in
      let three : c ≡ spliced s 0 ((h ++ r) ++ m) = qc ∙ ap (λ (l : List ℕ). put_of l head_length m) two
      ∙ behind s (h ++ r) m head_length (omega (arith, lr)) (omega (arith, lr, message)) in
      let lm : length ((h ++ r) ++ m) ≡ head_length + max_message = length-append (h ++ r) m ∙ omega (arith, lr, message) in
      qd ∙ ap (λ (l : List ℕ). put_of l (head_length + max_message) y) three
      ∙ behind s ((h ++ r) ++ m) y (head_length + max_message) (omega (arith, lm)) (omega (arith, lm, share))
      ∙ ap (spliced s 0) (append_assoc (h ++ r) m y ∙ append_assoc h r (m ++ y))

  pub state-written : (s a b c d head : List ℕ) → state_length ≤ length s → head ≡ head_of x → a ≡ put_of s 0 head → b ≡ put_of a root_place x.root
      → c ≡ put_of b head_length x.message → d ≡ put_of c (head_length + max_message) x.share
      → gave (goal.Done state_length) d ≡ written (state_bytes x) s
  state-written s a b c d head long qh qa qb qc qd =
      ap₂ (λ (k : ℕ) (l : List ℕ). gave (goal.Done k) l) (sym bytes-long) (spliced-all s a b c d head long qh qa qb qc qd)
      ∙ sym (written-done (state_bytes x) s (omega (arith, bytes-long)))
