-- `packet::judge_share` meets its contract: each return is one outcome of the definition; the check is of the path that lies behind the
-- share. Assumes nothing.
use Rattle.std.proofs.Common.{◌+◌, ◌-◌, drop, sym, ◌∙◌, arith}
use lib.ListN.{length-take}
use Rattle.packet.proofs.Verdict.{check-ok, checked_leads, check-says, on-long, on-many, on-outside, on-failed, on-valid}
use Rattle.sha256.specs.Sha256.{sha256}
use Rattle.packet.proofs.judge_share.Goals as goal
use Rattle.packet.proofs.judge_share.Goals.{then-len-gt-MAX_SHARE-via-then-len-gt-MAX_SHARE, then-len-gt-MAX_SHARE-via-else-len-gt-MAX_SHARE+then-count-gt-MAX_PATH}
use Rattle.packet.proofs.judge_share.Goals.{then-len-gt-MAX_SHARE-via-else-len-gt-MAX_SHARE+else-count-gt-MAX_PATH+then-s-from, then-len-gt-MAX_SHARE-via-else-len-gt-MAX_SHARE+else-count-gt-MAX_PATH+else-s-from+then-s-from-2}

pub returns-then-len-gt-MAX_SHARE : goal.returns-then-len-gt-MAX_SHARE
returns-then-len-gt-MAX_SHARE c =
    let a = c.args in
    let p = a.share in
    elim c.then-len-gt-MAX_SHARE.branch [
      | then-len-gt-MAX_SHARE-via-then-len-gt-MAX_SHARE w ↦
          sym (on-long sha256 a.session a.n p.number a.root.now a.s.now p.from p.len p.count (omega arith))
      | then-len-gt-MAX_SHARE-via-else-len-gt-MAX_SHARE+then-count-gt-MAX_PATH w ↦
          sym (on-many sha256 a.session a.n p.number a.root.now a.s.now p.from p.len p.count (omega arith) (omega arith) (omega arith) (omega arith))
      | then-len-gt-MAX_SHARE-via-else-len-gt-MAX_SHARE+else-count-gt-MAX_PATH+then-s-from w ↦
          sym (on-outside sha256 a.session a.n p.number a.root.now a.s.now p.from p.len p.count (omega arith) (omega arith))
      | then-len-gt-MAX_SHARE-via-else-len-gt-MAX_SHARE+else-count-gt-MAX_PATH+else-s-from+then-s-from-2 w ↦
          sym (on-outside sha256 a.session a.n p.number a.root.now a.s.now p.from p.len p.count (omega arith) (omega arith))
    ]

pub unwrap-leads-requires : goal.unwrap-leads-requires
unwrap-leads-requires c =
    let p = c.args.share in
    check-ok _ _ _ _ _ _ _ _ c.requires (omega (arith, length-take (p.from + p.len - p.from) (drop p.from c.args.s.now))) c.check.ensures

pub returns-then-leads : goal.returns-then-leads
returns-then-leads c =
    let a = c.args in
    let p = a.share in
    let told = checked_leads a.session a.n p.number a.root.now a.s.now p.from p.len p.count _ _ c.requires (omega arith) (omega arith) (omega arith)
    c.path_at-path.ensures c.check.ensures in
    sym (on-valid sha256 a.session a.n p.number a.root.now a.s.now p.from p.len p.count (omega arith) (omega arith)
    (check-says _ _ _ told c.unwrap-leads.ensures ∙ c.if-leads.true))

pub returns-else-leads : goal.returns-else-leads
returns-else-leads c =
    let a = c.args in
    let p = a.share in
    let told = checked_leads a.session a.n p.number a.root.now a.s.now p.from p.len p.count _ _ c.requires (omega arith) (omega arith) (omega arith)
    c.path_at-path.ensures c.check.ensures in
    sym (on-failed sha256 a.session a.n p.number a.root.now a.s.now p.from p.len p.count
    (check-says _ _ _ told c.unwrap-leads.ensures ∙ c.if-leads.false))
