-- No state is lost in its bytes: what is written is read back as the same state, in whatever buffer it stands. That is so for every state whose
-- fields fit their places, and the five forms that the steps give back do. Assumes nothing.
use mathlib.Core.Path.{◌≡◌, refl, sym, ap, ◌∙◌}
use mathlib.Core.Bool.{cond}
use mathlib.Core.List.{List, [], ◌++◌, append_assoc}
use Prim.Native.Nat.{ℕ, ◌+◌, ◌-◌, ◌*◌, ◌/◌, ◌%◌, ◌^◌, ◌≤◌, ◌<◌}
use native.Mathlib.Nat.{mod-eq_of_lt}
use native.Mathlib.Omega.{arith}
use lib.Dec.{eqb, lit<}
use lib.Pow.{pow_mono}
use lib.ListN.{length, get_or, take, drop, replicate, length-append, length-replicate}
use lib.Seq.{take_at, drop_at, drop-drop}
use Rattle.limits.specs.Limits.{max_parties, max_message, max_share}
use Rattle.buffer.specs.Splice.{spliced}
use Rattle.buffer.specs.Entries.{size}
use Rattle.buffer.specs.Numbers.{four_bytes, number}
use Rattle.buffer.specs.Given.{Given, written}
use Rattle.buffer.proofs.Splice.{length-spliced, spliced-start}
use Rattle.buffer.proofs.Given.{written-done}
use Rattle.buffer.proofs.Numbers.{number-back}
use Rattle.merkle.specs.Shares.{blank}
use Rattle.party.specs.State.{Result, nothing, settled, result_bytes, padded, at_root, at_bit, at_first, at_second, at_end}
use Rattle.std.specs.Prelude.{Some, None}
use Rattle.party.specs.declared.Stage.{Stage}
use Rattle.party.specs.declared.Stage.TheVariants.{Root, Bit, First, Second, Ended}
use Rattle.commitment.specs.declared.Seat.{Seat}
use Rattle.party.specs.declared.Party.{Party}
use Rattle.state_bytes.specs.Layout.{root_place, head_length, state_length, stage_number, length_for, head_of, state_bytes, stage_of}
use Rattle.state_bytes.specs.Layout.{layout_version, version_told, stage_told, length_told, held_told, session_told, faulty_told, state_of}
use Rattle.state_bytes.proofs.Reading.{fields-are, bytes-long, state-read}

-- a state whose fields fit their places; an end with a message has no other length
pub record Storable (x : Party) : Type 0 where
  pub session : x.seat.session < 2 ^ 32
  pub parties : x.seat.n < 256
  pub faults : x.seat.t < 256
  pub number : x.seat.own < 256
  pub short : length_for x.stage x.len < 65536
  pub few : x.held < 65536
  pub map : x.faulty < 2 ^ 32
  pub root : length x.root ≡ 32
  pub message : length x.message ≡ max_message
  pub share : length x.share ≡ max_share
  pub only : cond (eqb (stage_number x.stage) 5) 0 (length_for x.stage x.len) ≡ x.len

stage-known : (k : Stage) → stage_number k ≤ 5
stage-known Root = omega arith
stage-known Bit = omega arith
stage-known First = omega arith
stage-known Second = omega arith
stage-known (Ended None) = omega arith
stage-known (Ended (Some l)) = omega arith

stage-back : (k : Stage) (len : ℕ) → k ≡ stage_of (stage_number k) (length_for k len)
unfolding stage_of
stage-back Root len = refl
stage-back Bit len = refl
stage-back First len = refl
stage-back Second len = refl
stage-back (Ended None) len = refl
stage-back (Ended (Some l)) len = refl

pair-back : (k : ℕ) → k < 65536 → k ≡ k / 256 % 256 * 256 + k % 256
pair-back k h = omega arith

-- bytes that begin with those of a state
module _ (x : Party) (f : Storable x) (r : List ℕ) where
  abbrev B : List ℕ
  B = state_bytes x ++ r

  long : state_length ≤ length B
  long = omega (arith, length-append (state_bytes x) r, bytes-long x f.root f.message f.share)

  -- behind the numbers lie the root, the message and the share
  abbrev M : List ℕ
  M = x.message ++ (x.share ++ r)

  behind-head : drop root_place B ≡ x.root ++ M
  unfolding state_bytes head_of four_bytes
  behind-head =
      append_assoc x.root (x.message ++ x.share) r ∙ ap (λ (l : List ℕ). x.root ++ l) (append_assoc x.message x.share r)

  behind-root : drop head_length B ≡ M
  behind-root = sym (drop-drop 32 root_place B) ∙ ap (drop 32) behind-head ∙ drop_at x.root M 32 f.root

  behind-message : drop (head_length + max_message) B ≡ x.share ++ r
  behind-message =
      sym (drop-drop max_message head_length B) ∙ ap (drop max_message) behind-root ∙ drop_at x.message (x.share ++ r) max_message f.message

  version-back : version_told B ≡ layout_version
  unfolding state_bytes head_of
  version-back = refl

  n-back : x.seat.n ≡ get_or B 1 0
  unfolding state_bytes head_of
  n-back = sym (mod-eq_of_lt f.parties)

  t-back : x.seat.t ≡ get_or B 2 0
  unfolding state_bytes head_of
  t-back = sym (mod-eq_of_lt f.faults)

  own_back : x.seat.own ≡ get_or B 3 0
  unfolding state_bytes head_of
  own_back = sym (mod-eq_of_lt f.number)

  stage-told : stage_number x.stage ≡ stage_told B
  unfolding state_bytes head_of
  stage-told = refl

  length_back : length_for x.stage x.len ≡ length_told B
  unfolding state_bytes head_of size
  length_back = pair-back (length_for x.stage x.len) f.short

  held_back : x.held ≡ held_told B
  unfolding state_bytes head_of size
  held_back = pair-back x.held f.few

  session-back : x.seat.session ≡ session_told B
  unfolding state_bytes head_of
  session-back =
      let k : List ℕ = four_bytes x.seat.session in
      let rest : List ℕ = four_bytes x.faulty ++ (x.root ++ (x.message ++ x.share)) in
      sym (ap (λ (i : ℕ). i % 2 ^ 32)
      (ap number (ap (λ (l : List ℕ). l ++ r) (append_assoc k (four_bytes x.faulty) (x.root ++ (x.message ++ x.share))) ∙ append_assoc k rest r)
      ∙ number-back x.seat.session (rest ++ r) f.session)
      ∙ mod-eq_of_lt f.session)

  map_back : x.faulty ≡ faulty_told B
  unfolding state_bytes head_of four_bytes
  map_back =
      sym (ap (λ (i : ℕ). i % 2 ^ 32) (number-back x.faulty ((x.root ++ (x.message ++ x.share)) ++ r) f.map) ∙ mod-eq_of_lt f.map)

  read_back : state_of B ≡ x
  read_back =
      state-read B long version-back (omega (arith, stage-known x.stage, stage-told))
      ∙ sym (fields-are B (stage_number x.stage) (length_for x.stage x.len) x.seat.session x.seat.n x.seat.t x.seat.own x.stage
      x.message x.len x.root x.share x.held x.faulty stage-told length_back session-back n-back t-back own_back (stage-back x.stage x.len)
      (sym (ap (take max_message) behind-root ∙ take_at x.message (x.share ++ r) max_message f.message)) (sym f.only)
      (sym (ap (take 32) behind-head ∙ take_at x.root M 32 f.root))
      (sym (ap (take max_share) behind-message ∙ take_at x.share r max_share f.share)) held_back map_back)

-- a state written over the start of a buffer is the state that the buffer then says
pub written_read : (x : Party) → Storable x → (s : List ℕ) → state_length ≤ length s → state_of (written (state_bytes x) s).buffer ≡ x
unfolding spliced
written_read x f s long =
    ap (λ (g : Given). state_of g.buffer)
    (written-done (state_bytes x) s (omega (arith, bytes-long x f.root f.message f.share)))
    ∙ read_back x f (drop (0 + length (state_bytes x)) s)

-- and writing it once more leaves every byte
pub written-again : (x : Party) → Storable x → (s : List ℕ) → state_length ≤ length s
    → (written (state_bytes x) (written (state_bytes x) s).buffer).buffer ≡ (written (state_bytes x) s).buffer
written-again x f s long =
    let bs : List ℕ = state_bytes x in
    let fits : length bs ≤ length s = omega (arith, bytes-long x f.root f.message f.share) in
    let once : (written bs s).buffer ≡ spliced s 0 bs = ap (λ (g : Given). g.buffer) (written-done bs s fits) in
    let twice : spliced (spliced s 0 bs) 0 bs ≡ spliced s 0 bs = spliced-start (spliced s 0 bs) bs
    ∙ ap (λ (l : List ℕ). bs ++ l) (ap (drop (length bs)) (spliced-start s bs) ∙ drop_at bs (drop (length bs) s) (length bs) refl)
    ∙ sym (spliced-start s bs) in
    ap (λ (o : List ℕ). (written bs o).buffer) once
    ∙ ap (λ (g : Given). g.buffer) (written-done bs (spliced s 0 bs) (omega (arith, length-spliced s 0 bs (omega (arith, fits)), fits)))
    ∙ twice ∙ sym once

-- the five forms, within their limits
length-padded : (k : ℕ) (l : List ℕ) → length l ≤ k → length (padded k l) ≡ k
length-padded k l h = length-append l (replicate (k - length l) 0) ∙ omega (arith, length-replicate {A = ℕ} (k - length l) 0)

module _ (s : Seat) (four : s.session < 2 ^ 32) (high : s.n ≤ max_parties) (faults : 2 * s.t < s.n) (last : s.own ≤ s.n) where
  formed : (k : Stage) (m z y : List ℕ) (len map : ℕ) → map < 2 ^ 32 → length m ≤ max_message → length z ≡ 32 → length y ≤ max_share → length_for k len < 65536
      → cond (eqb (stage_number k) 5) 0 (length_for k len) ≡ len
      → Storable (record {
        seat = s;
        stage = k;
        message = padded max_message m;
        len = len;
        root = z;
        share = padded max_share y;
        held = length y;
        faulty = map;
      })
  formed k m z y len map named short root few told only =
      record {
        session = four;
        parties = omega arith;
        faults = omega arith;
        number = omega arith;
        short = told;
        few = omega arith;
        map = named;
        root = root;
        message = length-padded max_message m short;
        share = length-padded max_share y few;
        only = only;
      }

  -- a map of n parties has four bytes
  small : (f : ℕ) → f < 2 ^ s.n → f < 2 ^ 32
  small f h = omega (arith, h, pow_mono {i = s.n} {j = max_parties} high, pow_mono {i = max_parties} {j = 32} (omega arith))

  module _ (m : List ℕ) (short : length m ≤ max_message) where
    pub root-storable : Storable (at_root s m)
    unfolding at_root
    root-storable = formed Root m blank [] (length m) 0 (lit< tt) short refl (omega arith) (omega arith) refl

    module _ (z : List ℕ) (root : length z ≡ 32) where
      pub bit-storable : Storable (at_bit s m z)
      unfolding at_bit
      bit-storable = formed Bit m z [] (length m) 0 (lit< tt) short root (omega arith) (omega arith) refl

      pub first-storable : Storable (at_first s m z)
      unfolding at_first
      first-storable = formed First m z [] (length m) 0 (lit< tt) short root (omega arith) (omega arith) refl

      pub second-storable : (y : List ℕ) (f : ℕ) → length y ≤ max_share → f < 2 ^ s.n → Storable (at_second s m z y f)
      unfolding at_second
      second-storable y f few named = formed Second m z y (length m) f (small f named) short root few (omega arith) refl

  pub end-storable : (r : Result) (f : ℕ) → length (result_bytes r) ≤ max_message → f < 2 ^ s.n → Storable (at_end s r f)
  unfolding at_end
  end-storable nothing f h named = formed (Ended None) [] blank [] 0 f (small f named) h refl (omega arith) (omega arith) refl
  end-storable (settled m) f h named =
      formed (Ended (Some (length m))) m blank [] 0 f (small f named) h refl (omega arith) (omega (arith, h)) refl
