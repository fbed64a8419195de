-- `put_line` meets its contract: a small buffer is refused, and any other takes the line. Assumes nothing.
use native.Mathlib.Omega.{arith}
use lib.ListN.{length}
use Rattle.texts.proofs.PutAt.{put_front}
use Rattle.rows.proofs.RowInBuffer.{text-refused, text-written}
use Rattle.rows.proofs.run_lines.put_line.Goals as goal

pub returns-then-buffer-lt-LEAST_ROW_BUFFER : goal.returns-then-buffer-lt-LEAST_ROW_BUFFER
returns-then-buffer-lt-LEAST_ROW_BUFFER c = text-refused c.args.line.now c.args.buffer.now c.if-buffer-lt-LEAST_ROW_BUFFER.true

pub returns : goal.returns
returns c =
    let line = c.args.line.now in
    let lent = c.args.buffer.now in
    let room = c.if-buffer-lt-LEAST_ROW_BUFFER.false in
    text-written line lent _ _ room (put_front (length line) line lent _ _ (omega (arith, room, c.requires)) c.put_text.ensures)
