-- Each return is one outcome of the definition.
use Rattle.std.proofs.Common.{take, drop, ◌++◌, sym, ap, arith}
use Rattle.erasure.proofs.Placed.{lies-missing, lies-long, read-first, read-none, read-second}
use Rattle.erasure.proofs.share_at.Goals as goal

pub returns-then-len-eq0 : goal.returns-then-len-eq0
returns-then-len-eq0 c =
    let a = c.args in
    (lies-missing _ _ _ _ c.if-len-eq0.true, ap (λ n. take n (drop a.place.from (a.first.now ++ a.second.now))) (sym c.if-len-eq0.true))

pub returns-then-len-gt-MAX_ENTRY : goal.returns-then-len-gt-MAX_ENTRY
returns-then-len-gt-MAX_ENTRY c = lies-long _ _ _ _ (omega arith) c.if-len-gt-MAX_ENTRY.true

pub returns-in_err-get : goal.returns-in_err-get
returns-in_err-get c =
    let a = c.args in
    rw c.from_residual.ensures
    (read-none a.first.now a.second.now a.place.from a.place.len (omega arith) (omega arith) c.if-from-first.false
    (omega (arith, c.in_err-get.ensures.lookup.0)))

pub returns-then-from-first : goal.returns-then-from-first
returns-then-from-first c =
    let a = c.args in
    read-first a.first.now a.second.now a.place.from a.place.len (omega arith) (omega arith) c.if-from-first.true
    c.get.result c.get.ensures.lookup.0

pub returns-in_ok-get : goal.returns-in_ok-get
returns-in_ok-get c =
    let a = c.args in
    let h = c.in_ok-get.ensures.lookup.0 in
    read-second a.first.now a.second.now a.place.from a.place.len (omega arith) (omega arith) c.if-from-first.false c.in_ok-get.field-0.now h.2 h.3
    c.get-else-from-first-2.result c.get-else-from-first-2.ensures.lookup.0
