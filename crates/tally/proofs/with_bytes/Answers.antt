-- `tally::with_bytes` meets its contract. Assumes nothing.
use Rattle.std.proofs.Common.{sym, ◌∙◌, arith}
use Rattle.tally.proofs.TallyLaws.{tally-turn, tally-end}
use Rattle.tally.proofs.with_bytes.Goals as goal

pub loop-byte-preserved : goal.loop-byte-preserved
loop-byte-preserved c =
    let l = c.loop-byte in
    rw c.with_byte-tally.ensures (tally-turn _ l.tally _ l.byte-index (omega arith) l.invariant)

pub returns : goal.returns
returns c =
    let l = c.loop-byte in
    sym (l.invariant ∙ tally-end l.tally c.args.bytes.now l.byte-index (omega arith))
