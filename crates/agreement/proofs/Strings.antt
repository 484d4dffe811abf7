-- The strings that a party hashes for its map come to those that settle its results, and take none away: every string of an opening and of the path checks that
-- settle what is relayed and rebuilt is one of all that were hashed. So where no two different ones of all have one hash, agreement, broadcast and what is said
-- of the agreed root hold, which suppose it of the former alone. By cases of a call. Assumes nothing.
use mathlib.Core.Path.{◌≡◌}
use mathlib.Core.Logic.{◌⊎◌, inl, inr}
use mathlib.Core.List.Memᴰ
use mathlib.Core.List.{List, [], ◌∷◌, ◌++◌, Memᴰ}
use Prim.Native.Nat.{ℕ, ◌-◌}
use Rattle.buffer.specs.Entries.{bodies}
use Rattle.erasure.specs.Coding.{shares}
use Rattle.merkle.specs.Shares.{coding_strings}
use Rattle.party.specs.State.{has_ended, happy}
use Rattle.party.specs.declared.Party.{Party}
use Rattle.party.proofs.Checks.{shares-judged}
use Rattle.party.proofs.Ways.{Way, on, off, way}
use Rattle.agreement.specs.Calls.{Call, agree_root, agree_bit, take_shares, take_relays, Event, strings_over, checked_in, checked_over, judged_in, judged_over}
use Rattle.agreement.specs.Calls.{did, opened_and_checked, judged, recoded, hashed}
use Rattle.agreement.specs.Agreement.{Good, join_over, all_opened_and_checked, all_hashed, Clean}

-- where each of two parts is in another, so are both in both
pub both-in : {s : List ℕ} (a b c d : List (List ℕ)) → (Memᴰ s a → Memᴰ s c) → (Memᴰ s b → Memᴰ s d) → Memᴰ s (a ++ b)
    → Memᴰ s (c ++ d)
both-in {s} a b c d f g h = go (Memᴰ.append_cases a h)
  where
    go : Memᴰ s a ⊎ Memᴰ s b → Memᴰ s (c ++ d)
    go (inl k) = Memᴰ.append_left d (f k)
    go (inr k) = Memᴰ.append_right c (g k)

over-in : (of more : Party → Call → List (List ℕ)) (s : List ℕ) → ((x : Party) (c : Call) → Memᴰ s (of x c) → Memᴰ s (more x c))
    → (es : List Event) → Memᴰ s (strings_over of es) → Memᴰ s (strings_over more es)
unfolding strings_over
over-in of more s f [] h = h
over-in of more s f (e ∷ es) h =
    both-in (of e.before e.call) (strings_over of es) (more e.before e.call) (strings_over more es) (f e.before e.call) (over-in of more s f es) h

join-in : {A : Type 0} (f g : A → List (List ℕ)) (s : List ℕ) → ((a : A) → Memᴰ s (f a) → Memᴰ s (g a)) → (l : List A)
    → Memᴰ s (join_over f l) → Memᴰ s (join_over g l)
unfolding join_over
join-in f g s k [] h = h
join-in f g s k (a ∷ l) h = both-in (f a) (join_over f l) (g a) (join_over g l) (k a) (join-in f g s k l) h

module _ (H : List ℕ → List ℕ) where
  pub checked-judged : (s : List ℕ) (x : Party) (c : Call) → Memᴰ s (checked_in H x c) → Memᴰ s (judged_in H x c)
  unfolding checked_in judged_in
  checked-judged s x (agree_root z) h = h
  checked-judged s x (agree_bit bit out) h = h
  checked-judged s x (take_shares inbox out) h = go (way (happy H x))
    where
      go : Way (happy H x) → Memᴰ s (judged_in H x (take_shares inbox out))
      go (on e) = absurd (Memᴰ.not-nil (rw e at h))
      go (off e) = shares-judged H x.seat.session x.seat.n x.seat.own x.root 1 (bodies x.seat.n inbox) s (rw e at h)
  checked-judged s x (take_relays inbox out) h = go (way (has_ended x.stage)) (way (happy H x))
    where
      go : Way (has_ended x.stage) → Way (happy H x) → Memᴰ s (judged_in H x (take_relays inbox out))
      go (on e) w = absurd (Memᴰ.not-nil (rw e at h))
      go (off e) (on w) = absurd (Memᴰ.not-nil (rw (e, w) at h))
      go (off e) (off w) = rw e (rw (e, w) at h)

  -- of one party
  pub opened-hashed : (session n t i : ℕ) (m : List ℕ) (calls : List Call) (s : List ℕ) → Memᴰ s (opened_and_checked H session n t i m calls)
      → Memᴰ s (hashed H session n t i m calls)
  unfolding opened_and_checked judged
  opened-hashed session n t i m calls s h =
      let own : List (List ℕ) = coding_strings H session n (shares n (n - t) m) in
      let es : List Event = did H session n t i m calls in
      Memᴰ.append_left (recoded H session n t i m calls)
      (both-in own (checked_over H es) own (judged_over H es) (λ k. k) (over-in (checked_in H) (judged_in H) s (checked-judged s) es) h)

  -- of all good parties
  pub clean-of-all : (session n t : ℕ) (good : List Good)
      → ((x y : List ℕ) → Memᴰ x (all_hashed H session n t good) → Memᴰ y (all_hashed H session n t good) → H x ≡ H y → x ≡ y)
      → Clean H session n t good
  clean-of-all session n t good f x y h k = f x y (longer x h) (longer y k)
    where
      longer : (s : List ℕ) → Memᴰ s (all_opened_and_checked H session n t good) → Memᴰ s (all_hashed H session n t good)
      longer s =
          join-in (λ (A : Good). opened_and_checked H session n t A.own A.message A.calls) (λ (A : Good). hashed H session n t A.own A.message A.calls) s
          (λ A. opened-hashed session n t A.own A.message A.calls s) good
