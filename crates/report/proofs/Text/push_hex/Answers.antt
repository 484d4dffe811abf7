-- `report::Text::push_hex` meets its contract: after i turns the digits of the first i bytes are written. Assumes nothing.
use Rattle.std.proofs.Common.{◌∷◌, [], take, sym, append_assoc, append-nil, arith}
use Rattle.std.proofs.lemmas.Grind.{common_steps}
use Rattle.report.specs.Output.{hex}
use Rattle.report.proofs.Hexes.{hex_none, hex_more}
use Rattle.report.proofs.Text.push_hex.Goals as goal

pub loop-byte-init : goal.loop-byte-init
loop-byte-init _ c = (omega arith, rw hex_none (sym (append-nil _)))

pub loop-byte-preserved : goal.loop-byte-preserved
loop-byte-preserved _ c =
    let s = c.args.self.now in
    let l = c.loop-byte in
    let m = c.args.message.now in
    let more = hex_more m l.byte-index (omega arith) in
    let behind = append_assoc s (hex (take l.byte-index m)) (c.hex_digit-high.result ∷ c.hex_digit-low.result ∷ []) in
    (grind (arith, common_steps), cc)
