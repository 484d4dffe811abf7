-- `plan::laid_out` meets its contract: what is found behind the books is what the definitions say. Assumes nothing.
use Rattle.std.proofs.Common.{arith}
use Rattle.plan.proofs.Reading.{sender-few, holders-are, laid-none, laid-some}
use Rattle.plan.proofs.laid_out.Goals as goal

pub holders-holders-requires : goal.holders-holders-requires
holders-holders-requires c = rw c.sender_of-sender.ensures (sender-few c.args.plan.now (omega arith))

pub returns-in_err-behind : goal.returns-in_err-behind
returns-in_err-behind c =
    let h = c.in_ok-options.ensures in
    rw c.from_residual-in_err-behind.ensures
    (laid-none _ _ c.args.plan.now h.header c.args.n c.in_ok-options.good c.holders-holders.result _ c.requires.0 h.good-is c.sender_of-sender.ensures
    c.holders-holders.ensures h.books-are c.in_err-behind.ensures)

pub returns : goal.returns
returns c =
    let h = c.in_ok-options.ensures in
    let l = laid-some _ _ c.args.plan.now h.header c.args.n c.in_ok-options.good c.holders-holders.result _ c.requires.0 h.good-is
    c.sender_of-sender.ensures c.holders-holders.ensures h.books-are c.in_ok-behind.behind c.in_ok-behind.ensures in
    record {
      laid = l.0;
      room = h.header.room;
      options-is = h.options-is;
      good-is = h.good-is;
      sender-is = c.sender_of-sender.ensures;
      holders-is = holders-are _ _ c.args.plan.now h.header c.args.n _ _ _ c.requires.0 h.good-is c.sender_of-sender.ensures c.holders-holders.ensures h.books-are;
      books-are = h.books-are;
      packets-are = l.1;
      exchanges-are = l.2;
    }
