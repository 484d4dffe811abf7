-- What a party's arrays hold, and the forms of its states. A list put at the start of zeros is padded, and one of full length is all there
-- is; a state whose fields are those of a form is that form. By the laws of writing into a buffer. Assumes nothing.
use mathlib.Core.Path.{◌≡◌, refl, sym, ap, ◌∙◌}
use mathlib.Core.List.{List, ◌++◌, append-nil}
use mathlib.Core.Option.{Option, some}
use Prim.Native.Nat.{ℕ, ◌-◌, ◌≤◌}
use native.Mathlib.Omega.{arith}
use lib.ListN.{length, take, replicate, length-replicate}
use lib.Seq.{length-take-le, take_at}
use Rattle.limits.specs.Limits.{max_message, max_share}
use Rattle.buffer.specs.Splice.{put_of}
use Rattle.buffer.proofs.Splice.{put-fits, spliced-start}
use Rattle.merkle.proofs.Descend.{drop-replicate}
use Rattle.merkle.specs.Shares.{blank}
use Rattle.party.specs.State.{padded, message_in, share_held, waiting, at_root, at_bit, at_first, at_second, at_end, Result, nothing, settled, outcome_of, result_bytes, result_in}
use Rattle.party.specs.declared.Stage.{Stage}
use Rattle.party.specs.declared.Stage.TheVariants.{Ended}
use Rattle.commitment.specs.declared.Seat.{Seat}
use Rattle.party.specs.declared.Party.{Party}

pub put-padded : (k : ℕ) (l : List ℕ) → length l ≤ k → put_of (replicate k 0) 0 l ≡ padded k l
put-padded k l h =
    put-fits (replicate k 0) 0 l (omega (arith, length-replicate {A = ℕ} k 0)) ∙ spliced-start (replicate k 0) l
    ∙ ap (λ (r : List ℕ). l ++ r) (drop-replicate (length l) k 0 h)

pub put_whole : (k : ℕ) (l : List ℕ) → length l ≡ k → put_of (replicate k 0) 0 l ≡ l
put_whole k l h =
    let none : k - length l ≡ 0 = omega arith in
    put-padded k l (omega arith) ∙ ap (λ (i : ℕ). l ++ replicate i 0) none ∙ append-nil l

pub take-padded : (k : ℕ) (l : List ℕ) → take (length l) (padded k l) ≡ l
take-padded k l = take_at l (replicate (k - length l) 0) (length l) refl

pub length-message : (x : Party) → x.len ≤ length x.message → length (message_in x) ≡ x.len
length-message x h = length-take-le x.len x.message h

-- a state with its message and its share kept waits
pub waiting_kept : (s : Seat) (stage : Stage) (bs m r z a y : List ℕ) (len held f : ℕ) → bs ≡ padded max_message m → len ≡ length m
    → r ≡ z → a ≡ padded max_share y → held ≡ length y
    → ◌≡◌ {A = Party} (record {
      seat = s;
      stage = stage;
      message = bs;
      len = len;
      root = r;
      share = a;
      held = held;
      faulty = f;
    }) (waiting s stage m z y f)
waiting_kept s stage bs m r z a y len held f e l q p h = rw (e, l, q, p, h)

-- so a party's state does that waits with its own message
pub waits_on : (x : Party) (stage : Stage) (r z a y : List ℕ) (held f : ℕ) → x.len ≤ max_message → length x.message ≡ max_message → r ≡ z
    → a ≡ padded max_share y → held ≡ length y
    → ◌≡◌ {A = Party} (record {
      seat = x.seat;
      stage = stage;
      message = padded max_message (message_in x);
      len = x.len;
      root = r;
      share = a;
      held = held;
      faulty = f;
    }) (waiting x.seat stage (message_in x) z y f)
waits_on x stage r z a y held f short long q p h =
    waiting_kept x.seat stage _ (message_in x) r z a y x.len held f refl (sym (length-message x (omega (arith, short, long)))) q p h

-- a state with a result kept has ended
pub ended-kept : (s : Seat) (r : Result) (f : ℕ) (bs : List ℕ) → bs ≡ padded max_message (result_bytes r)
    → ◌≡◌ {A = Party} (record {
      seat = s;
      stage = Ended (outcome_of r);
      message = bs;
      len = 0;
      root = blank;
      share = replicate max_share 0;
      held = 0;
      faulty = f;
    }) (at_end s r f)
unfolding at_end
ended-kept s r f bs e = rw e

-- and holds it
pub result-end : (s : Seat) (r : Result) (f : ℕ) → result_in (at_end s r f) ≡ some r
unfolding at_end
result-end s nothing f = refl
result-end s (settled m) f = ap {B = Option Result} (λ (l : List ℕ). some (settled l)) (take-padded max_message m)

-- the message of a state that waits, and its relayed share
module _ (s : Seat) (m z : List ℕ) where
  pub message-root : message_in (at_root s m) ≡ m
  unfolding at_root
  message-root = take-padded max_message m

  pub message-bit : message_in (at_bit s m z) ≡ m
  unfolding at_bit
  message-bit = take-padded max_message m

  pub message-first : message_in (at_first s m z) ≡ m
  unfolding at_first
  message-first = take-padded max_message m

  pub message-second : (x : List ℕ) (f : ℕ) → message_in (at_second s m z x f) ≡ m
  unfolding at_second
  message-second x f = take-padded max_message m

  pub share-second : (x : List ℕ) (f : ℕ) → share_held (at_second s m z x f) ≡ x
  unfolding at_second
  share-second x f = take-padded max_share x
