-- `commitment::shares::Shares::entry_len` meets its contract: the length is told by whether the number is the own one. Assumes nothing.
use mathlib.Core.Path.{sym}
use native.Mathlib.Omega.{arith}
use Rattle.sha256.specs.Sha256.{sha256}
use Rattle.sha256.proofs.Laws.{sha256-length}
use Rattle.commitment.proofs.Sending.{own-length, other-length}
use Rattle.commitment.proofs.shares.Shares.entry_len.Goals as goal

pub returns-then-j-self : goal.returns-then-j-self
returns-then-j-self c =
    let s = c.args.self.now in (
      sym (own-length sha256 sha256-length s.seat.session s.seat.n s.seat.own s.len s.all.now s.seated.0 s.seated.1 s.cut.1 s.cut.2 s.leaves.now
          s.hashed.0 c.args.j (omega arith)),
      omega arith,
    )

pub returns : goal.returns
returns c =
    let s = c.args.self.now in
    let e = other-length sha256 sha256-length s.seat.session s.seat.n s.seat.own s.len s.all.now s.seated.0 s.seated.1 s.cut.1 s.cut.2 s.leaves.now
    s.hashed.0 c.args.j (omega arith) (omega arith) (λ q. omega arith) in
    (omega (arith, e, c.path_len.ensures), omega (arith, s.cut, c.path_len.ensures))
