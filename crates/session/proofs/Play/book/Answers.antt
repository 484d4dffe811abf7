-- `Play::book` meets its contract: the book that is listed, or none. Assumes nothing.
use mathlib.Core.Path.{ap, ◌∙◌}
use mathlib.Core.List.{List}
use Prim.Native.Nat.{ℕ}
use native.Mathlib.Omega.{arith}
use Rattle.session.proofs.Rule.{known}
use lib.ListN.{take}
use Rattle.cause.specs.Cause.{number}
use Rattle.buffer.specs.Given.{said}
use Rattle.buffer.proofs.Parts.{part-rest}
use Rattle.plan.specs.Plan.{book_given}
use Rattle.session.proofs.Rule.{books-room, book-told}
use Rattle.session.proofs.Play.book.Goals as goal

pub slice_bounds-book-count : goal.slice_bounds-book-count
slice_bounds-book-count c = omega (arith, books-room _ _ (known c.args.self.now))

pub slice_bounds-book-start : goal.slice_bounds-book-start
slice_bounds-book-start c = omega (arith, books-room _ _ (known c.args.self.now))

pub returns : goal.returns
returns c =
    let p = c.args.self.now in
    let s = p.bytes.now in
    let o = c.args.out.now in
    let t = book-told s p.parts (known p) c.args.q o c.requires (said c.book.result) _
    (c.book.ensures ∙ ap (λ (l : List ℕ). book_given p.parts.n p.parts.holders c.args.q l o) (part-rest s p.parts.books)) in
    let v = c.value_of.ensures number in
    (omega (arith, v, t.0), ap (λ (k : ℕ). take k c.book.new.out) v ∙ t.1)
