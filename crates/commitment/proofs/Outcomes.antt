-- The outcomes of root, outbox and relay, for any hash: a refusal with the lowest cause, or what is given where none applies, by whether the
-- message has the agreed root. By the tests of the definitions. Assumes nothing.
use mathlib.Core.Path.{◌≡◌, refl, sym}
use mathlib.Core.Bool.{Bool, true, false, cond, not}
use mathlib.Core.List.{List, []}
use Prim.Native.Nat.{ℕ, ◌-◌, ◌*◌}
use borrow.Author.Tests.{eq-eqb, ne_eqb, eqb-true}
use lib.Dec.{eqb}
use lib.ListN.{length, take, drop}
use Rattle.buffer.specs.Given.{gave, written}
use Rattle.buffer.specs.Given.{Done}
use Rattle.merkle.specs.Shares.{blank, sides_of, path_of, same}
use Rattle.packet.specs.Format.{packet_of}
use Rattle.commitment.specs.Commitment.{open_cause, message_root, rooted_of, sending, mail_with, send_of}
use Rattle.commitment.specs.Private.{relay_for}
use Rattle.merkle.specs.Answer.{Rooted}

module _ (H : List ℕ → List ℕ) where
  module _ (session n t own : ℕ) (m : List ℕ) where
    pub rooted-given : open_cause n t own (length m) ≡ 0 → rooted_of H session n t own m ≡ record { cause = 0; root = message_root H session n t m }
    unfolding rooted_of
    rooted-given h = rw (eq-eqb (open_cause n t own (length m)) 0 h)

    pub rooted-cause : (rooted_of H session n t own m).cause ≡ open_cause n t own (length m)
    unfolding rooted_of
    rooted-cause = go (eqb (open_cause n t own (length m)) 0) refl
      where
        go : (b : Bool) → eqb (open_cause n t own (length m)) 0 ≡ b
            → (cond {A = Rooted} (not b) (record { cause = open_cause n t own (length m); root = blank })
            (record { cause = 0; root = message_root H session n t m })).cause
            ≡ open_cause n t own (length m)
        go true e = sym (eqb-true (open_cause n t own (length m)) 0 e)
        go false e = refl

    module _ (relays : Bool) (z out : List ℕ) where
      module _ (fine : open_cause n t own (length m) ≡ 0) where
        pub send-other : same (message_root H session n t m) z ≡ false → send_of H session relays n t own m z out ≡ sending false (gave (Done 0) out)
        unfolding send_of
        send-other h = rw (eq-eqb (open_cause n t own (length m)) 0 fine, h)

        pub send-own : same (message_root H session n t m) z ≡ true
            → send_of H session relays n t own m z out ≡ sending true (written (mail_with H session relays n t own m) out)
        unfolding send_of
        send-own h = rw (eq-eqb (open_cause n t own (length m)) 0 fine, h)

  -- the own relay
  module _ (n own s : ℕ) (shares : List ℕ) (leaves : List (List ℕ)) where
    pub relay-alone : n ≡ 1 → relay_for H n own s shares leaves ≡ []
    unfolding relay_for
    relay-alone h = rw (eq-eqb n 1 h)

    pub relay-other : (n ≡ 1 → ⊥) → relay_for H n own s shares leaves
        ≡ packet_of own (take s (drop ((own - 1) * s) shares)) (take (length (sides_of n own)) (path_of H n own leaves))
    unfolding relay_for
    relay-other h = rw (ne_eqb n 1 h)
