-- `commitment::shares::Shares::put_relay` meets its contract: nothing where the party is alone, else what the packet writer gives for the own share.
-- Assumes nothing.
use mathlib.Core.Path.{◌≡◌, sym, ap, ap₂, ◌∙◌}
use mathlib.Core.List.{List, []}
use Prim.Native.Nat.{ℕ, ◌-◌, ◌*◌}
use native.Mathlib.Omega.{arith}
use lib.ListN.{length, take, drop}
use Rattle.sha256.specs.Sha256.{sha256}
use Rattle.buffer.specs.Given.{gave, written}
use Rattle.buffer.specs.Given.{Done}
use Rattle.buffer.proofs.Given.{written-done}
use Rattle.buffer.proofs.Parts.{length_part}
use Rattle.buffer.proofs.Splice.{spliced-none}
use Rattle.merkle.specs.Shares.{path_in, path_of}
use Rattle.merkle.proofs.Slots.{path-read}
use Rattle.packet.specs.Format.{packet_of}
use Rattle.packet.specs.Answer.{write_of}
use Rattle.packet.proofs.Writing.{cause-fine, write-written}
use Rattle.commitment.proofs.Shared.{share-inside}
use Rattle.commitment.proofs.Outcomes.{relay-alone, relay-other}
use Rattle.commitment.proofs.shares.Shares.put_relay.Goals as goal

pub returns-then-n-eq1 : goal.returns-then-n-eq1
returns-then-n-eq1 c =
    let s = c.args.self.now in
    let out = c.args.out.now in
    sym (ap (λ (bs : List ℕ). written bs out) (relay-alone sha256 s.seat.n s.seat.own s.len s.all.now s.leaves.now (omega arith))
    ∙ written-done [] out (omega arith)
    ∙ ap (gave (Done 0)) (spliced-none out 0))

pub returns : goal.returns
returns c =
    let s = c.args.self.now in
    let n = s.seat.n in
    let own = s.seat.own in
    let out = c.args.out.now in
    let count = c.path_len.result in
    let share = take s.len (drop ((own - 1) * s.len) s.all.now) in
    let way = path_of sha256 n own s.leaves.now in
    let long : length share ≡ s.len =
    length_part s.all.now ((own - 1) * s.len) s.len (omega (arith, s.cut, share-inside n own s.len (omega arith) (omega arith))) in
    c.write.ensures
    ∙ ap₂ (λ (y : List ℕ) (l : List (List ℕ)). write_of n own y l count out) c.share.ensures
    (c.path_in-path.ensures ∙ ap (path_in n own s.leaves.now) s.hashed.1 ∙ path-read sha256 n own s.leaves.now)
    ∙ write-written n own share way count out
    (cause-fine n own (length share) count s.seated.0 s.seated.1 s.seated.2 s.seated.3 (omega (arith, s.cut)) (omega (arith, s.cut)) c.path_len.ensures.0)
    ∙ ap (λ (k : ℕ). written (packet_of own share (take k way)) out) c.path_len.ensures.0
    ∙ ap (λ (bs : List ℕ). written bs out) (sym (relay-other sha256 n own s.len s.all.now s.leaves.now (λ q. omega arith)))
