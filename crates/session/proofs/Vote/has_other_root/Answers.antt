-- `Vote::has_other_root` meets its contract: the roots put in, and whether the agreed one is theirs. Assumes nothing.
use mathlib.Core.Path.{◌≡◌, sym, ap, ap₂, ◌∙◌}
use mathlib.Core.Bool.{Bool, true, not, ◌&&◌}
use mathlib.Core.List.{List}
use Prim.Native.Nat.{ℕ}
use Rattle.sha256.specs.Sha256.{sha256}
use Rattle.merkle.specs.Shares.{same}
use Rattle.session.specs.declared.Opening.{Opening}
use Rattle.plan.specs.Layout.{n_in}
use Rattle.session.specs.Session.{opened, agreed_root, same_roots}
use Rattle.session.specs.Private.{first_root}
use Rattle.session.proofs.Rule.{equal-is}
use Rattle.session.proofs.Vote.has_other_root.Goals as goal

pub returns-then-same_roots : goal.returns-then-same_roots
returns-then-same_roots c =
    let p = c.args.self.now in
    let s = p.play.bytes.now in
    let own = ap (λ (x : Opening). x.root) c.opened.ensures ∙ ap (λ (q : ℕ). (opened sha256 s q).root) c.lowest_good-q.ensures in
    let all : same_roots sha256 s (n_in s) 1 (first_root sha256 s) ≡ true =
    sym (c.same_roots.ensures ∙ ap (same_roots sha256 s (n_in s) 1) own) ∙ c.if-same_roots.true in
    c.ne.ensures ∙ ap not (equal-is p.root c.opened.result.root) ∙ ap₂ (λ (x y : List ℕ). not (same x y)) p.root_is own
    ∙ ap (λ (b : Bool). b && not (same (agreed_root sha256 s) (first_root sha256 s))) (sym all)
