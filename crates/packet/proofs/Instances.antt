-- The laws of packets and inboxes at work on one packet: number 1 of one party, the share 0xAA and its empty path, judged under session number 7. So their
-- premises can be met, and none is dropped unseen. Assumes nothing.
use mathlib.Core.Path.{◌≡◌, refl, sym, ap, ◌∙◌}
use mathlib.Core.Bool.{true}
use mathlib.Core.List.{List, [], ◌∷◌}
use Prim.Native.Nat.{ℕ, zero, suc}
use native.Mathlib.Omega.{arith}
use lib.Dec.{lit<, lit≤}
use Rattle.buffer.specs.Bounds.{Bytes}
use Rattle.buffer.specs.Entries.{size, fills, bodies}
use Rattle.merkle.specs.Shares.{blank, same, passes}
use Rattle.merkle.specs.Tree.{shape_of, shape, sides, folded}
use Rattle.packet.specs.Format.{chained, hashes, packet_of, entry_of, read_of, shared}
use Rattle.packet.specs.Inbox.{inbox_of}
use Rattle.packet.specs.Class.{class_of}
use Rattle.packet.specs.Answer.{placed, judge_of}
use Rattle.packet.specs.Private.{body_at, TakenAt}
use Rattle.packet.specs.Packet.{Share}
use Rattle.packet.specs.Judged.{Valid}
use Rattle.packet.proofs.Inverse.{written_read, read-written}
use Rattle.packet.proofs.Inbox.{inbox-fills, inbox-bodies}
use Rattle.packet.proofs.Entries.{Stands, entry-stands}
use Rattle.packet.proofs.Verdict.{judge-on, leads, on-valid, class-taken}

abbrev one : List ℕ
one = packet_of 1 (0xAA ∷ []) []

pub read_back : read_of 1 one ≡ shared 1 (0xAA ∷ []) []
unfolding shape shape_of sides
read_back = written_read 1 1 (0xAA ∷ []) [] (lit≤ tt) (lit≤ tt) (lit≤ tt) (lit≤ tt) refl (λ i h. absurd (omega arith))

small : Bytes one
unfolding packet_of chained
small zero = lit< tt
small (suc zero) = lit< tt
small (suc (suc zero)) = lit< tt
small (suc (suc (suc zero))) = lit< tt
small (suc (suc (suc (suc zero)))) = lit< tt
small (suc (suc (suc (suc (suc i))))) = lit< tt

pub written-so : one ≡ packet_of 1 (0xAA ∷ []) []
written-so = read-written 1 one 1 (0xAA ∷ []) [] small read_back

pub laid_out : fills 2 (inbox_of (one ∷ [] ∷ [])) ≡ true
laid_out = inbox-fills (one ∷ [] ∷ [])

pub taken_out : bodies 2 (inbox_of (one ∷ [] ∷ [])) ≡ one ∷ [] ∷ []
taken_out = inbox-bodies (one ∷ [] ∷ [])

-- its entry in that inbox, and the share taken from there by a hash that is blank for every string
abbrev inbox : List ℕ
inbox = inbox_of (one ∷ [] ∷ [])

pub first-stands : Stands 1 1 0 inbox
first-stands = entry-stands 1 1 2 0 inbox (lit≤ tt) (lit≤ tt) refl laid_out

first_body : body_at 0 inbox ≡ one
unfolding size inbox_of entry_of packet_of chained
first_body = refl

pub first_read : placed 2 (read_of 1 (body_at 0 inbox)) ≡ Share 1 6 1 0
first_read = ap (λ (p : List ℕ). placed 2 (read_of 1 p)) first_body ∙ ap (placed 2) read_back

abbrev H : List ℕ → List ℕ
H x = blank

first-leads : leads H 7 1 1 blank inbox 6 1 0 ≡ true
unfolding passes shape shape_of sides folded same hashes
first-leads = refl

first-valid : judge_of H 7 1 1 blank inbox (Share 1 6 1 0) ≡ Valid
unfolding inbox_of entry_of packet_of chained
first-valid =
    judge-on H 7 1 1 blank inbox (Share 1 6 1 0) (lit≤ tt) (lit≤ tt) (lit≤ tt) (lit≤ tt) refl
    ∙ on-valid H 7 1 1 blank inbox 6 1 0 (lit≤ tt) (lit≤ tt) first-leads

pub first_taken : TakenAt inbox 6 1 0 (class_of H 7 1 1 blank (body_at 0 inbox))
first_taken =
    class-taken H 7 1 1 blank inbox 2 (size inbox) first-stands.inside (Share 1 6 1 0) (sym first_read)
    (lit≤ tt) (lit≤ tt) (lit≤ tt) (lit≤ tt) refl Valid (sym first-valid) 1 6 1 0 refl refl
