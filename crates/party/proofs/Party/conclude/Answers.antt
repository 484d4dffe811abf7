-- `party::Party::conclude` meets its contract: each return is one result that is found, by whether the party is happy, by the answer of rebuilding from
-- the shares that were gathered, and by whether what was rebuilt has the agreed root. Assumes nothing.
use Rattle.std.proofs.Common.{◌≡◌, true, false, List, ℕ, sym, ◌∙◌}
use mathlib.Core.Path.{ap₂}
use Rattle.sha256.specs.Sha256.{sha256}
use Rattle.party.specs.State.{Result, nothing}
use Rattle.party.specs.Steps.{result_found, faulty_relays, Stepped, ending}
use Rattle.party.specs.declared.Party.{Party}
use Rattle.party.proofs.Outcomes.{found-happy}
use Rattle.party.proofs.Rebuilding.{within, exact, result-is, result-none}
use Rattle.party.proofs.Party.conclude.Goals as goal

-- the end with a result that is the one found, and a map
ends : (x : Party) (s out : List ℕ) (r : Result) (f : ℕ) → f ≡ faulty_relays sha256 x s → result_found sha256 x s ≡ r
    → ending x r f out ≡ ending x (result_found sha256 x s) (faulty_relays sha256 x s) out
ends x s out r f e q = ap₂ {C = Stepped} (λ (r : Result) (f : ℕ). ending x r f out) (sym q) e

pub returns-then-happy : goal.returns-then-happy
returns-then-happy c =
    let x = c.args.self in
    let s = c.args.inbox.now in
    c.settle.ensures
    ∙ ends x s c.args.out.now _ _ c.judge_relays-faulty.ensures.1 (found-happy sha256 x s (sym c.happy.ensures ∙ c.if-happy.true))

pub returns-in_default : goal.returns-in_default
returns-in_default c =
    let x = c.args.self in
    let s = c.args.inbox.now in
    let j = c.judge_relays-faulty in
    rw c.settle_nothing.ensures (ends x s c.args.out.now nothing _ j.ensures.1
    (result-none x s c.requires.0 j.result.places j.ensures.0 c.rebuild_at.result c.rebuild_at.new.out c.rebuild_at.ensures c.in_default.not-Ok
    (sym c.happy.ensures ∙ c.if-happy.false)))

pub slice_bounds-message-end : goal.slice_bounds-message-end
slice_bounds-message-end c =
    let j = c.judge_relays-faulty in
    within c.args.self c.args.inbox.now c.requires.0 j.result.places j.ensures.0 c.rebuild_at.result c.rebuild_at.new.out c.rebuild_at.ensures c.in-Ok.len c.in-Ok.is

pub slice_bounds-has_root-end : goal.slice_bounds-has_root-end
slice_bounds-has_root-end c =
    let j = c.judge_relays-faulty in
    sym (exact c.args.self c.args.inbox.now c.requires.0 j.result.places j.ensures.0 c.rebuild_at.result c.rebuild_at.new.out c.rebuild_at.ensures c.in-Ok.len c.in-Ok.is)

pub slice_bounds-message-end-then-has_root : goal.slice_bounds-message-end-then-has_root
slice_bounds-message-end-then-has_root c =
    let j = c.judge_relays-faulty in
    within c.args.self c.args.inbox.now c.requires.0 j.result.places j.ensures.0 c.rebuild_at.result c.rebuild_at.new.out c.rebuild_at.ensures c.in-Ok.len c.in-Ok.is

pub slice_bounds-settle-end-then-has_root : goal.slice_bounds-settle-end-then-has_root
slice_bounds-settle-end-then-has_root c =
    let j = c.judge_relays-faulty in
    sym (exact c.args.self c.args.inbox.now c.requires.0 j.result.places j.ensures.0 c.rebuild_at.result c.rebuild_at.new.out c.rebuild_at.ensures c.in-Ok.len c.in-Ok.is)

pub returns-then-has_root : goal.returns-then-has_root
returns-then-has_root c =
    let x = c.args.self in
    let s = c.args.inbox.now in
    let j = c.judge_relays-faulty in
    c.settle-then-has_root.ensures ∙ ends x s c.args.out.now _ _ j.ensures.1
    (result-is x s c.requires.0 j.result.places j.ensures.0 c.rebuild_at.result c.rebuild_at.new.out c.rebuild_at.ensures c.in-Ok.len c.in-Ok.is true
    (sym c.happy.ensures ∙ c.if-happy.false) (sym c.if-has_root.true ∙ c.has_root.ensures))

pub returns : goal.returns
returns c =
    let x = c.args.self in
    let s = c.args.inbox.now in
    let j = c.judge_relays-faulty in
    rw c.settle_nothing-2.ensures (ends x s c.args.out.now nothing _ j.ensures.1
    (result-is x s c.requires.0 j.result.places j.ensures.0 c.rebuild_at.result c.rebuild_at.new.out c.rebuild_at.ensures c.in-Ok.len c.in-Ok.is false
    (sym c.happy.ensures ∙ c.if-happy.false) (sym c.if-has_root.false ∙ c.has_root.ensures)))
