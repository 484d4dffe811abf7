-- A sitting's number is where request No. 6 wants it: by the laws of the leaf string, of openings and steps, of a state's bytes, and of the roots under two numbers.
-- Assumes nothing.
use mathlib.Core.Path.{◌≡◌, refl, sym, ap, ◌∙◌}
use mathlib.Core.Bool.{Bool, true, false, cond}
use mathlib.Core.List.{List, [], ◌∷◌}
use Prim.Native.Nat.{ℕ, ◌/◌, ◌^◌, ◌≤◌}
use native.Mathlib.Decide.{ℕ_discrete}
use lib.Dec.{eqb}
use lib.ListN.{length}
use Rattle.limits.proofs.Group.{group_of}
use Rattle.buffer.specs.Numbers.{four_bytes}
use Rattle.sha256.specs.Sha256.{sha256}
use Rattle.sha256.proofs.Laws.{sha256-length}
use Rattle.merkle.proofs.Written.{leaf-plain, leaf-numbered}
use Rattle.merkle.proofs.Shares.{leaf_string-injective}
use Rattle.commitment.proofs.Sessions.{roots-differ, empty-string, behind-string, two-messages}
use Rattle.party.specs.State.{nothing, at_root, at_bit, at_first, at_second, at_end, message_in, broken}
use Rattle.party.specs.Steps.{open_of}
use Rattle.party.specs.Sender.{open_by_sender_of}
use Rattle.party.specs.declared.Party.{Party}
use Rattle.party.specs.Answer.{Opened}
use Rattle.party.proofs.Sender.{accepted-opens}
use Rattle.agreement.specs.Calls.{Call, agree_root, agree_bit, take_shares, take_relays, made, final}
use Rattle.state_bytes.specs.Layout.{state_length, state_of}
use Rattle.capi.specs.Calls.{packed, unless_broken, open_call, open_by_sender_call, called, session_call}
use Rattle.capi.proofs.Asked.{unbroken}
use Rattle.capi.proofs.Kept.{call_kept, open_kept}
use Rattle.capi.proofs.Sound.{whole}
use Rattle.claims.specs.Terms.{FourBytes, SenderHost, next}
use Rattle.claims.specs.SittingNumber.{EverySittingHasItsNumber}
use Rattle.claims.proofs.Steps.{opening-tells, step-tells}
use Rattle.claims.proofs.Hosts.{host-step-tells}
use Rattle.claims.proofs.ReadAgain.{final-whole}
use Rattle.claims.proofs.OneSender.{host-taken, opener-kept}

-- an opening takes the number into the state
opened : (session n t own : ℕ) (m : List ℕ) → (open_of sha256 session n t own m).cause ≡ 0 → (open_of sha256 session n t own m).state.seat.session ≡ session
unfolding at_root
opened session n t own m e = ap (λ (x : Party). x.seat.session) ((opening-tells session n t own m).accepted e).0

by-sender : (session n t own q : ℕ) (bs out : List ℕ) → (open_by_sender_of sha256 session n t own q bs out).opened.cause ≡ 0
    → (open_by_sender_of sha256 session n t own q bs out).opened.state.seat.session ≡ session
by-sender session n t own q bs out e =
    let o = accepted-opens n t own q bs sha256 session out e in
    ap (λ (r : Opened). r.state.seat.session) o ∙ opened session n t own _ (sym (ap (λ (r : Opened). r.cause) o) ∙ e)

-- no step changes it
next-seat : (x : Party) (c : Call) → (next x c).seat.session ≡ x.seat.session
unfolding at_bit at_first at_second at_end
next-seat x (agree_root z) = refl
next-seat x (agree_bit bit out) = go (eqb bit 0)
  where
    go : (b : Bool) → (cond b (at_end x.seat nothing 0) (at_first x.seat (message_in x) x.root)).seat.session ≡ x.seat.session
    go true = refl
    go false = refl
next-seat x (take_shares inbox out) = refl
next-seat x (take_relays inbox out) = refl

kept : (x : Party) (c : Call) → (made sha256 x c).state.seat.session ≡ x.seat.session
kept x c = go (ℕ_discrete (made sha256 x c).cause 0)
  where
    go : Dec ((made sha256 x c).cause ≡ 0) → (made sha256 x c).state.seat.session ≡ x.seat.session
    go (yes e) = ap (λ (y : Party). y.seat.session) ((step-tells x c).accepted e).0 ∙ next-seat x c
    go (no d) = ap (λ (y : Party). y.seat.session) ((step-tells x c).refused d).0

stays-sound : (x : Party) (c : Call) → broken x ≡ false → broken (made sha256 x c).state ≡ false
unfolding final
stays-sound x c h = final-whole x (c ∷ []) h

-- and the bytes tell it
told : (x : Party) → broken x ≡ false → unless_broken x (packed 0 x.seat.session) ≡ packed 0 x.seat.session
told x h = unbroken x (packed 0 x.seat.session) h

host-opened : (session n t own : ℕ) (m s z : List ℕ) → FourBytes session → (open_of sha256 session n t own m).cause ≡ 0 → state_length ≤ length s
    → 32 ≤ length z → session_call (open_call sha256 session n t own m s z).state ≡ packed 0 session
unfolding session_call
host-opened session n t own m s z four e long room =
    let x = (open_of sha256 session n t own m).state in
    ap (λ (y : Party). unless_broken y (packed 0 y.seat.session)) (open_kept sha256 session n t own m s z four e long room)
    ∙ told x ((opening-tells session n t own m).accepted e).2 ∙ ap (packed 0) (opened session n t own m e)

host-by-sender : (session n t : ℕ) (h : SenderHost) → FourBytes session
    → let r = open_by_sender_call sha256 session n t h.own h.sender h.handed h.state_room h.root_room h.packet_room in
    r.number / 2 ^ 32 ≡ 0 → session_call r.state ≡ packed 0 session
unfolding session_call
host-by-sender session n t h four e =
    let own = h.own in
    let c = (host-taken session n t four h e).0 in
    let o = accepted-opens n t own h.sender h.handed sha256 session h.packet_room c in
    let none = sym (ap (λ (r : Opened). r.cause) o) ∙ c in
    ap (λ (y : Party). unless_broken y (packed 0 y.seat.session)) (opener-kept session n t four h e ∙ ap (λ (r : Opened). r.state) o)
    ∙ told _ ((opening-tells session n t own _).accepted none).2 ∙ ap (packed 0) (opened session n t own _ none)

-- a refused call leaves every byte, and an accepted one was on a state that is not broken
host-kept : (s : List ℕ) (c : Call) → session_call (called sha256 s c).state ≡ session_call s
unfolding session_call
host-kept s c = go (ℕ_discrete (made sha256 (state_of s) c).cause 0)
  where
    x : Party
    x = state_of s

    go : Dec ((made sha256 x c).cause ≡ 0) → session_call (called sha256 s c).state ≡ session_call s
    go (no d) = ap session_call ((host-step-tells s c).refused d).0
    go (yes e) =
        let h = whole sha256 x c e in
        ap (λ (y : Party). unless_broken y (packed 0 y.seat.session)) (call_kept sha256 s c)
        ∙ told (made sha256 x c).state (stays-sound x c h) ∙ ap (packed 0) (kept x c) ∙ sym (told x h)

pub every-sitting-has-its-number : EverySittingHasItsNumber
unfolding four_bytes
every-sitting-has-its-number =
    record {
      leaf = leaf-numbered;
      leaf-zero = λ j x. leaf-plain 0 j x refl;
      one-leaf = λ session j k x y e. leaf_string-injective session e;
      opened = opened;
      by-sender = by-sender;
      kept = kept;
      host-opened = host-opened;
      host-by-sender = host-by-sender;
      host-kept = host-kept;
      roots = λ session other n t m four little apart group short. let g = group_of n t group in
          roots-differ sha256 sha256-length session other n t m (record { low = g.low; high = g.high; faults = g.faults; short = short }) four little apart;
      two-books = (two-messages sha256, empty-string sha256 ∙ sym (behind-string sha256), ap length (behind-string sha256));
    }
