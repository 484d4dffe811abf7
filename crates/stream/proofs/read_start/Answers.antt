-- `stream::read_start` meets its contract: the part of the buffer that it lends ends where the bytes begin that stay. Assumes nothing.
use Rattle.std.proofs.Common.{◌≡◌, ℕ, length, take, drop, sym, ap, ◌∙◌, arith, length-append, length-drop, length-take, drop_at}
use Rattle.stream.specs.Parts.{Part, told, part_of}
use Rattle.stream.proofs.Parts.{start_fits}
use Rattle.stream.proofs.read_start.Goals as goal

pub returns : goal.returns
returns c =
    let len = c.args.len in
    let buffer = c.args.buffer.now in
    let bs = c.read.new.buffer in
    let r = told c.read.result in
    let cut : length (take len buffer) ≡ len = simp length-take (omega arith) in
    let part : r ≡ part_of len r.got = c.read.ensures.2 ∙ ap (λ (k : ℕ). part_of k r.got) cut in
    let size : r.len ≡ len = ap (λ (x : Part). x.len) part in (
      simp (length-append, length-drop) (omega (arith, c.read.ensures.0, cut)),
      rw size (drop_at bs (drop len buffer) len (c.read.ensures.0 ∙ cut)),
      c.read.ensures.1,
      part ∙ sym (start_fits (length buffer) len r.got (omega arith)),
    )
