-- What a party sends, for any hash: outbox and relay as they are written are those of the definition, and the outbox's length is the one counted
-- if a hash has 32 bytes. By induction on the entries. Assumes nothing.
use mathlib.Core.Path.{◌≡◌, refl, sym, ap, ap₂, ◌∙◌}
use mathlib.Core.Bool.{Bool, true, false, cond}
use mathlib.Core.List.{List, [], ◌++◌}
use Prim.Native.Nat.{ℕ, zero, suc, ◌+◌, ◌-◌, ◌*◌, ◌/◌, ◌≤◌}
use native.Mathlib.Numerals.{add-one}
use native.Mathlib.Omega.{arith}
use lib.Dec.{eqb}
use lib.ListN.{length, take, drop}
use Rattle.limits.specs.Limits.{max_parties, max_share}
use Rattle.buffer.specs.Splice.{tabulate}
use Rattle.erasure.specs.Coding.{share_length, shares}
use Rattle.merkle.specs.Shares.{shares_cause, leaves_of, nodes_of, sides_of, path_of, rooted_in, same}
use Rattle.std.specs.Prelude.{Result, Ok, Err, IsOk}
use Rattle.cause.specs.declared.Cause.{Cause}
use Rattle.cause.proofs.Numbers.{number-nonzero}
use Rattle.merkle.specs.Answer.{Rooted, root_said}
use Rattle.merkle.proofs.Outcomes.{root-made}
use Rattle.merkle.proofs.Slots.{root-read}
use Rattle.merkle.proofs.Trees.{path-counted, path-hashes-wide}
use Rattle.packet.specs.Format.{packet_of, entry_of}
use Rattle.packet.specs.Inbox.{inbox_of}
use Rattle.packet.proofs.Parts.{packet-length, entry-length}
use Rattle.packet.proofs.Inbox.{inbox-more}
use Rattle.buffer.proofs.Parts.{length_part}
use Rattle.commitment.specs.Commitment.{open_cause, message_root, leaves_for, packet_with, packets_with, relay_with, mail_with}
use Rattle.commitment.specs.Private.{Coded, entry_with, entry_for, relay_for, outbox_up_to}
use Rattle.commitment.proofs.Messages.{share-some, share-fits}
use Rattle.commitment.proofs.Opening.{open-bounds, open-coded}
use Rattle.commitment.proofs.Shared.{share-inside, shares-fine, share-at, length-shares, one_of, same-is}
use Rattle.commitment.proofs.Outbox.{entry-own, entry_other}

module _ (H : List ℕ → List ℕ) where
  -- n shares of s bytes, whose leaves are hashed
  module _ (wide : (s : List ℕ) → length (H s) ≡ 32) (session n own s : ℕ) (all : List ℕ) (low : 1 ≤ n) (high : n ≤ max_parties)
      (short : s ≤ max_share) (long : length all ≡ n * s) where
    -- the length of an entry
    module _ (leaves : List (List ℕ)) (hashed : leaves ≡ leaves_of H session n all) (j : ℕ) where
      pub own-length : j ≡ own → length (entry_for H n own s all leaves j) ≡ 2
      own-length e = ap length (entry-own H n own leaves j (take s (drop ((j - 1) * s) all)) e)

      pub other-length : 1 ≤ j → j ≤ n → (j ≡ own → ⊥) → length (entry_for H n own s all leaves j) ≡ 2 + 4 + s + 32 * length (sides_of n j)
      other-length first last d =
          let one : List ℕ = take s (drop ((j - 1) * s) all) in
          let way : List (List ℕ) = take (length (sides_of n j)) (path_of H n j (leaves_of H session n all)) in
          let fine : shares_cause session n (length all) ≡ 0 = shares-fine session n s all low high short long in
          ap (λ (ls : List (List ℕ)). length (entry_for H n own s all ls j)) hashed
          ∙ ap length (entry_other H n own (leaves_of H session n all) j one d)
          ∙ omega (
            arith,
            entry-length (packet_of j one way),
            packet-length j one way (path-hashes-wide H wide session n all fine j first last),
            path-counted H wide session n all fine j first last,
            length_part all ((j - 1) * s) s (omega (arith, share-inside n j s first last)),
          )

  -- a message within the limits: its outbox and its relay, as they are written
  module _ (session n t own : ℕ) (m : List ℕ) (c : Coded n t m) where
    abbrev S : ℕ
    S = share_length (n - t) (length m)

    abbrev packets : ℕ → List ℕ
    packets i = cond (eqb (i + 1) own) [] (packet_with H session n t m (i + 1))

    up_to : (k : ℕ) → k ≤ n → outbox_up_to H k n own S (shares n (n - t) m) (leaves_for H session n t m) ≡ inbox_of (tabulate k packets)
    unfolding outbox_up_to entry_with inbox_of tabulate
    up_to zero h = refl
    up_to (suc k) h =
        let way : List (List ℕ) = take (length (sides_of n (suc k))) (path_of H n (suc k) (leaves_for H session n t m)) in
        ap₂ (λ (l r : List ℕ). l ++ r) (up_to k (omega arith))
        (ap (λ (one : List ℕ). entry_of (cond (eqb (suc k) own) [] (packet_of (suc k) one way)))
        (share-at (n - t) m n (suc k) (omega arith) h)
        ∙ ap (λ (j : ℕ). entry_of (cond (eqb j own) [] (packet_with H session n t m j))) (sym (add-one k)))
        ∙ sym (inbox-more (tabulate k packets) (packets k))

    pub outbox-sent : outbox_up_to H n n own S (shares n (n - t) m) (leaves_for H session n t m) ≡ inbox_of (packets_with H session n t own m)
    outbox-sent = up_to n (omega arith)

    pub relay-sent : 1 ≤ own → own ≤ n → relay_for H n own S (shares n (n - t) m) (leaves_for H session n t m) ≡ relay_with H session n t own m
    unfolding relay_for
    relay-sent first last =
        ap (λ (one : List ℕ). cond (eqb n 1) [] (packet_of own one (take (length (sides_of n own)) (path_of H n own (leaves_for H session n t m)))))
        (share-at (n - t) m n own first last)

-- a message that is opened, with the shares, leaves and nodes that were made of it
module _ (H : List ℕ → List ℕ) (session n t own : ℕ) (m : List ℕ) (fine : open_cause n t own (length m) ≡ 0) (all : List ℕ)
    (coded : all ≡ shares n (n - t) m) (leaves : List (List ℕ)) (hashed : leaves ≡ leaves_of H session n all) where
  within : Coded n t m
  within = open-coded n t own m fine

  pub made-seated : (1 ≤ n) × (n ≤ max_parties) × (1 ≤ own) × (own ≤ n)
  made-seated = let b = open-bounds n t own (length m) fine in (within.low, within.high, b.1, b.2)

  each : length all / n ≡ share_length (n - t) (length m)
  each = one_of n (share_length (n - t) (length m)) (length all) within.low (ap length coded ∙ length-shares n (n - t) m)

  pub made-cut : (1 ≤ length all / n) × (length all / n ≤ max_share) × (length all ≡ n * (length all / n))
  made-cut = (
    omega (arith, each, share-some n t m within),
    omega (arith, each, share-fits n t m within),
    ap length coded ∙ length-shares n (n - t) m ∙ ap (λ (k : ℕ). n * k) (sym each),
  )

  -- the root over them is that of the message
  module _ (nodes : List (List ℕ)) (k : nodes ≡ nodes_of H n leaves) (r : Result (List ℕ) Cause) (e : root_said r ≡ rooted_in n leaves nodes) where
    made-root : root_said r ≡ record { cause = 0; root = message_root H session n t m }
    unfolding message_root
    made-root =
        e ∙ ap (rooted_in n leaves) k
        ∙ ap (λ (ls : List (List ℕ)). rooted_in n ls (nodes_of H n ls)) (hashed ∙ ap (leaves_of H session n) coded)
        ∙ root-read H n _ ∙ root-made H n _ within.low within.high

    pub root-ok : IsOk r
    root-ok = go r made-root
      where
        go : (x : Result (List ℕ) Cause) → root_said x ≡ record { cause = 0; root = message_root H session n t m } → IsOk x
        go (Ok y) q = refl
        go (Err c) q = absurd (number-nonzero c (ap (λ (y : Rooted). y.cause) q))

    -- whether the message has the root z
    pub agreed : (y : List ℕ) → r ≡ Ok y → (z : List ℕ) (b : Bool) → (b ≡ true → y ≡ z) → (y ≡ z → b ≡ true) → b ≡ same (message_root H session n t m) z
    agreed y is z b p q = same-is y z b p q ∙ ap (λ (x : Rooted). same x.root z) (ap root_said (sym is) ∙ made-root)

  -- the relay and the outbox over these are those of the message
  relay-made : relay_for H n own (length all / n) all leaves ≡ relay_with H session n t own m
  relay-made =
      let b = open-bounds n t own (length m) fine in
      ap (relay_for H n own (length all / n) all) hashed
      ∙ ap₂ (λ (k : ℕ) (x : List ℕ). relay_for H n own k x (leaves_of H session n x)) each coded
      ∙ relay-sent H session n t own m within b.1 b.2

  outbox-made : outbox_up_to H n n own (length all / n) all leaves ≡ inbox_of (packets_with H session n t own m)
  outbox-made =
      ap (outbox_up_to H n n own (length all / n) all) hashed
      ∙ ap₂ (λ (k : ℕ) (x : List ℕ). outbox_up_to H n n own k x (leaves_of H session n x)) each coded
      ∙ outbox-sent H session n t own m within

  pub mail-made : (relays : Bool) → cond relays (relay_for H n own (length all / n) all leaves) (outbox_up_to H n n own (length all / n) all leaves)
      ≡ mail_with H session relays n t own m
  mail-made true = relay-made
  mail-made false = outbox-made
