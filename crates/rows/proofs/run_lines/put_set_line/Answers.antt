-- `put_set_line` meets its contract: a small buffer is refused, and any other takes the line of the six numbers. Assumes nothing.
use native.Mathlib.Omega.{arith}
use Rattle.rows.specs.SetLine.{set_line}
use Rattle.decimals.specs.Commaed.{line_of}
use Rattle.texts.proofs.PutAt.{put_front}
use Rattle.rows.proofs.RowInBuffer.{text-refused, text-written}
use Rattle.rows.proofs.run_lines.put_set_line.Goals as goal

pub returns-then-buffer-lt-LEAST_ROW_BUFFER : goal.returns-then-buffer-lt-LEAST_ROW_BUFFER
returns-then-buffer-lt-LEAST_ROW_BUFFER c = let a = c.args in text-refused (set_line a.number a.state) a.buffer.now c.if-buffer-lt-LEAST_ROW_BUFFER.true

pub returns : goal.returns
unfolding set_line line_of
returns c =
    let line = set_line c.args.number c.args.state in
    let lent = c.args.buffer.now in
    text-written line lent _ _ c.if-buffer-lt-LEAST_ROW_BUFFER.false (put_front 126 line lent _ _ (omega (arith, c.if-buffer-lt-LEAST_ROW_BUFFER.false)) c.put_numbers.ensures)
