-- What steps 4 and 5 take from an inbox, for any hash: a share that was found lies at its place and passed the path check, so its packet is
-- written; and rebuilding is given the shares gathered. By cases on the answer of the search. Assumes nothing.
use mathlib.Core.Path.{◌≡◌, refl, sym, ap, ap₂, subst, ◌∙◌}
use mathlib.Core.Bool.{true}
use mathlib.Core.List.{List}
use Rattle.std.specs.Prelude.{Some, None}
use Prim.Native.Nat.{ℕ, ◌+◌, ◌-◌, ◌*◌, ◌≤◌}
use native.Mathlib.Omega.{arith}
use lib.ListN.{length, take, drop}
use Rattle.limits.specs.Limits.{max_parties, max_share, max_path}
use Rattle.limits.proofs.Group.{group-fine}
use Rattle.buffer.specs.Entries.{bodies}
use Rattle.buffer.specs.Given.{written}
use Rattle.erasure.specs.Rebuild.{present, recovered, answered, rebuild_at_of}
use Rattle.erasure.specs.declared.Place.{Place}
use Rattle.erasure.proofs.Outcomes.{rebuild-at-answered}
use Rattle.erasure.proofs.Placed.{all-lie}
use Rattle.merkle.specs.Shares.{passes}
use Rattle.merkle.proofs.Judged.{passes-true}
use Rattle.packet.specs.Format.{hashes, packet_of}
use Rattle.packet.specs.Answer.{write_of}
use Rattle.packet.proofs.Writing.{cause-fine, write-written}
use Rattle.packet.proofs.Class.{passing}
use Rattle.party.specs.State.{share_held}
use Rattle.party.specs.Steps.{Taken, missing, found, first_valid, gathered, recovered_by}
use Rattle.party.specs.Private.{Fit, TakenIs, Gathered}
use Rattle.party.specs.declared.Party.{Party}
use Rattle.party.proofs.Checks.{took}

-- nothing was taken
pub taken_none : (t : Taken) (s : List ℕ) → TakenIs None t s → t ≡ missing
taken_none missing s h = refl
taken_none (found y p) s h = absurd h

module _ (H : List ℕ → List ℕ) (session : ℕ) where
  -- a share that was taken passed the path check
  module _ (n own : ℕ) (z : List ℕ) where
    abbrev pub Passed : Taken → Type 0
    Passed missing = Unit {0}
    Passed (found x p) = passes H session n own x p (length p) z ≡ true

    pub passed : (j : ℕ) (ps : List (List ℕ)) → Passed (first_valid H session n own z j ps)
    passed j ps = go (first_valid H session n own z j ps) refl
      where
        go : (t : Taken) → first_valid H session n own z j ps ≡ t → Passed t
        go missing e = tt
        go (found x p) e =
            let k = took H session n own z j ps x p e in
            (passing H session n own z k.packet x p k.good).leads

    -- and it lies at its place in the inbox
    module _ (s : List ℕ) (f l c : ℕ) where
      pub record Got (t : Taken) : Type 0 where
        pub is : t ≡ found (take l (drop f s)) (hashes c (drop (f + l) s))
        pub some : 1 ≤ l
        pub most : l ≤ max_share
        pub few : c ≤ max_path
        pub inside : f + l + 32 * c ≤ length s
        pub leads : Passed (found (take l (drop f s)) (hashes c (drop (f + l) s)))

      pub got_of : (k : ℕ) (t : Taken) → TakenIs (Some (record { number = k; from = f; len = l; count = c })) t s → Passed t → Got t
      got_of k missing h q = absurd h
      got_of k (found y p) h q =
          let e : found y p ≡ found (take l (drop f s)) (hashes c (drop (f + l) s)) = ap₂ found h.share_lies h.path-lies in
          record {
            is = e;
            some = h.some;
            most = h.most;
            few = h.few;
            inside = h.inside;
            leads = subst Passed e q;
          }

  -- so its packet is written
  pub write-taken : (n own : ℕ) (z y : List ℕ) (p path : List (List ℕ)) (c : ℕ) (out : List ℕ) → 1 ≤ n → n ≤ max_parties → 1 ≤ own
      → own ≤ n → 1 ≤ length y → length y ≤ max_share → length p ≡ c → take c path ≡ p → passes H session n own y p (length p) z ≡ true
      → write_of n own y path c out ≡ written (packet_of own y p) out
  write-taken n own z y p path c out low high first last some most count h q =
      write-written n own y path c out
      (cause-fine n own (length y) c low high first last some most (sym count ∙ (passes-true H session n own y p (length p) z q).0))
      ∙ ap (λ (l : List (List ℕ)). written (packet_of own y l) out) h

module _ (H : List ℕ → List ℕ) where
  -- rebuilding from the shares gathered, where they lie
  pub rebuilt-of : (x : Party) (inbox : List ℕ) (p : List Place) (out : List ℕ) → Fit x
      → Gathered x.seat.n (gathered H x 1 (bodies x.seat.n inbox)) inbox (share_held x) p
      → rebuild_at_of x.seat.n x.seat.t inbox (share_held x) p out
      ≡ answered (recovered_by H x inbox) out
  rebuilt-of x inbox p out f g =
      rebuild-at-answered x.seat.n x.seat.t inbox (share_held x) p out
      (group-fine x.seat.n x.seat.t f.low f.high (omega (arith, f.faults)))
      (all-lie (length inbox) (length (share_held x)) p x.seat.n g.lie)
      ∙ ap (λ (l : List (List ℕ)). answered (recovered (x.seat.n - x.seat.t) (present 1 l)) out) g.parts
