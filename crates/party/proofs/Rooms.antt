-- How long what a party writes can be: no packet is over max_packet, no outbox over max_outbox. By the lengths of shares and paths; all n
-- shares together are within max_shares, for every n and t. Assumes nothing.
use mathlib.Core.Path.{◌≡◌, refl, sym, subst}
use mathlib.Core.Bool.{Bool, true, false, cond, ◌&&◌}
use mathlib.Core.List.{List, [], ◌∷◌}
use Prim.Native.Nat.{ℕ, zero, suc, ◌+◌, ◌-◌, ◌*◌, ◌≤◌, ◌<◌}
use native.Mathlib.Nat.{mul-le-mul_right}
use native.Mathlib.Omega.{arith}
use lib.Dec.{eqb}
use lib.ListN.{length, get_or, replicate, length-append, length-replicate}
use Rattle.limits.specs.Limits.{max_path}
use Rattle.buffer.specs.Splice.{tabulate}
use Rattle.buffer.specs.Entries.{bodies}
use Rattle.buffer.proofs.Tabulate.{length-tabulate, get_or-tabulate}
use Rattle.erasure.specs.Coding.{share_length, share}
use Rattle.erasure.proofs.Frame.{length-share}
use Rattle.merkle.proofs.Descend.{sides-fit}
use Rattle.packet.specs.Format.{packet_of, entry_of}
use Rattle.packet.specs.Inbox.{inbox_of}
use Rattle.packet.proofs.Parts.{entry-length, packet-length}
use Rattle.packet.proofs.Reading.{fields-of, read_wide}
use Rattle.packet.proofs.Class.{passing}
use Rattle.commitment.specs.Rooms.{max_packet, max_outbox}
use Rattle.commitment.specs.Private.{Coded}
use Rattle.commitment.proofs.Shared.{shares-bound}
use Rattle.commitment.proofs.Messages.{share-fits, path_to, path-count, path-each}
use Rattle.party.specs.State.{at_bit, at_first, happy}
use Rattle.party.specs.Steps.{packet_for, outbox_of, Taken, missing, found, taken_by, packet_taken, own_relay, relay_of}
use Rattle.commitment.specs.declared.Seat.{Seat}
use Rattle.party.proofs.Packets.{packet-bit, packet-first}
use Rattle.party.proofs.Checks.{took}

-- entries of at most K bytes each
inbox-below : (K : ℕ) (ps : List (List ℕ)) → ((k : ℕ) → k < length ps → length (get_or ps k []) ≤ K) → length (inbox_of ps) ≤ length ps * (2 + K)
unfolding inbox_of
inbox-below K [] h = omega arith
inbox-below K (p ∷ ps) h =
    omega (
      arith,
      length-append (entry_of p) (inbox_of ps),
      entry-length p,
      h 0 (omega arith),
      inbox-below K ps (λ k l. h (suc k) (omega arith)),
    )

none-there : (n k : ℕ) → length (get_or (replicate {A = List ℕ} n []) k []) ≡ 0
none-there zero k = refl
none-there (suc n) zero = refl
none-there (suc n) (suc k) = none-there n k

module _ (H : List ℕ → List ℕ) (wide : (w : List ℕ) → length (H w) ≡ 32) (s : Seat) (m z : List ℕ) (c : Coded s.n s.t m) where
  abbrev session : ℕ
  session = s.session

  abbrev n : ℕ
  n = s.n

  abbrev t : ℕ
  t = s.t

  -- the length of a packet whose path is the longest
  abbrev most : ℕ
  most = 4 + share_length (n - t) (length m) + 32 * max_path

  -- the packet with share j
  made-length : (j : ℕ) (first : 1 ≤ j) (last : j ≤ n) → length (packet_of j (share (n - t) j m) (path_to H wide session n t m c j first last)) ≤ most
  made-length j first last =
      omega (
        arith,
        packet-length j (share (n - t) j m) (path_to H wide session n t m c j first last) (path-each H wide session n t m c j first last),
        length-share (n - t) j m,
        path-count H wide session n t m c j first last,
        sides-fit n (j - 1) c.high (omega arith),
      )

  made-short : (j : ℕ) (first : 1 ≤ j) (last : j ≤ n) → length (packet_of j (share (n - t) j m) (path_to H wide session n t m c j first last)) ≤ max_packet
  made-short j first last = omega (arith, made-length j first last, share-fits n t m c)

  -- n entries of such packets
  entries_fit : n * (2 + most) ≤ max_outbox
  entries_fit =
      omega (
        arith,
        shares-bound n t (length m) c.faults c.high c.short,
        mul-le-mul_right (6 + 32 * max_path) c.high,
      )

  -- the outbox of step 3
  pub outbox-fits : (bit : ℕ) → length (outbox_of H (at_bit s m z) bit) ≤ max_outbox
  unfolding outbox_of at_bit
  outbox-fits bit = go (eqb bit 1 && happy H (at_bit s m z))
    where
      f : ℕ → List ℕ
      f k = cond (eqb (k + 1) s.own) [] (packet_for H (at_bit s m z) (k + 1))

      each : (k : ℕ) → k < n → (b : Bool) → length (cond b [] (packet_for H (at_bit s m z) (k + 1))) ≤ most
      each k l true = omega arith
      each k l false =
          subst (λ (w : List ℕ). length w ≤ most) (sym (packet-bit H s m z (k + 1)))
          (made-length (k + 1) (omega arith) (omega arith))

      all : (ps : List (List ℕ)) → length ps ≡ n → ((k : ℕ) → k < n → length (get_or ps k []) ≤ most) → length (inbox_of ps) ≤ max_outbox
      all ps e h =
          let below : length ps * (2 + most) ≤ max_outbox = rw e entries_fit in
          omega (arith, inbox-below most ps (λ k l. h k (omega (arith, e, l))), below)

      go : (b : Bool) → length (inbox_of (cond b (tabulate n (λ k. cond (eqb (k + 1) s.own) [] (packet_for H (at_bit s m z) (k + 1))))
          (replicate n []))) ≤ max_outbox
      go true =
          all (tabulate n f) (length-tabulate n f)
          (λ k l. subst (λ (w : List ℕ). length w ≤ most) (sym (get_or-tabulate n f k [] l)) (each k l (eqb (k + 1) s.own)))
      go false = all (replicate n []) (length-replicate {A = List ℕ} n []) (λ k l. omega (arith, none-there n k))

  -- the relay of step 4
  pub relay-fits : 1 ≤ s.own → s.own ≤ n → (inbox : List ℕ) → length (relay_of H (at_first s m z) inbox) ≤ max_packet
  unfolding relay_of at_first
  relay-fits first last inbox = go (happy H (at_first s m z)) (taken_by H (at_first s m z) inbox) refl
    where
      alone : (b : Bool) → length (cond b [] (packet_for H (at_first s m z) s.own)) ≤ max_packet
      alone true = omega arith
      alone false =
          subst (λ (w : List ℕ). length w ≤ max_packet) (sym (packet-first H s m z s.own)) (made-short s.own first last)

      go : (b : Bool) (k : Taken) → taken_by H (at_first s m z) inbox ≡ k
          → length (cond b (own_relay H (at_first s m z)) (packet_taken (at_first s m z) (taken_by H (at_first s m z) inbox))) ≤ max_packet
      go true k e = alone (eqb n 1)
      go false missing e = rw e (omega arith)
      go false (found y p) e =
          let k = took H session n s.own z 1 (bodies n inbox) y p e in
          let q = passing H session n s.own z k.packet y p k.good in
          let f = fields-of n k.packet s.own y p q.reads in
          rw e (omega (
            arith,
            packet-length s.own y p (read_wide n k.packet s.own y p q.reads),
            f.most,
            f.counted,
            sides-fit n (s.own - 1) c.high (omega arith),
          ))
