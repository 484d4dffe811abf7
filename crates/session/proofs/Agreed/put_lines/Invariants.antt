use mathlib.Core.Path.{◌≡◌}
use mathlib.Core.List.{◌++◌}
use Prim.Native.Nat.{◌+◌, ◌-◌, ◌*◌, ◌≤◌}
use Rattle.sha256.specs.Sha256.{sha256}
use Rattle.plan.specs.Layout.{n_in}
use lib.ListN.{take}
use Rattle.session.specs.Session.{lines_from}
use Rattle.session.specs.Private.{max_line}
use Rattle.session.proofs.Agreed.put_lines.Given as goal

abbrev pub invariant-loop-j : goal.invariant-loop-j
invariant-loop-j l =
    (l.at ≤ l.j * max_line)
    × (lines_from sha256 l.self.play.bytes.now (n_in l.self.play.bytes.now) 1
    ≡ take l.at l.text ++ lines_from sha256 l.self.play.bytes.now (n_in l.self.play.bytes.now - l.j) (l.j + 1))
