-- `put_row` meets its contract: a small buffer is refused, and any other takes the line of the thirteen numbers, in two parts. Assumes nothing.
use Prim.Native.Nat.{◌+◌, ◌≤◌}
use mathlib.Core.Path.{◌≡◌, refl}
use mathlib.Core.List.{◌++◌}
use native.Mathlib.Omega.{arith}
use lib.ListN.{length, take, drop}
use Rattle.rules.specs.Bytes.{comma_line}
use Rattle.rules.specs.Row.{columns, row_text}
use Rattle.decimals.specs.Commaed.{commaed, line_of}
use Rattle.decimals.proofs.Lines.{line-parts}
use Rattle.texts.proofs.Texts.{goes_on}
use Rattle.texts.proofs.PutAt.{was-put, put_front}
use Rattle.rows.proofs.Lengths.{first-most}
use Rattle.rows.proofs.RowInBuffer.{text-refused, text-written}
use Rattle.rows.proofs.row.put_row.Goals as goal
use Rattle.rows.proofs.row.put_row.Goals.{Start}

-- the row's first numbers have the bits of their fields
first_short : (c : Start) → length (commaed (take 8 (columns c.args.row))) ≤ 88
first_short c =
    let fields = c.well_formed.0.1.1 in
    let watts = fields.1.0.1.1.1 in
    first-most c.args.row (fields.0.1, (watts.0.1, (watts.1.0.1, (watts.1.1.0.1, (watts.1.1.1.0.1, (watts.1.1.1.1.0.1, (watts.1.1.1.1.1.0.1, (watts.1.1.1.1.1.1.0.1, tt))))))))

pub returns-then-buffer-lt-LEAST_ROW_BUFFER : goal.returns-then-buffer-lt-LEAST_ROW_BUFFER
returns-then-buffer-lt-LEAST_ROW_BUFFER c = text-refused (row_text c.args.row) c.args.buffer.now c.if-buffer-lt-LEAST_ROW_BUFFER.true

pub slice_bounds-put_commaed-end : goal.slice_bounds-put_commaed-end
slice_bounds-put_commaed-end c = rw c.numbers_of-numbers.ensures refl

pub returns : goal.returns
unfolding row_text line_of
returns c =
    let lent = c.args.buffer.now in
    let first = take 8 (columns c.args.row) in
    let others = drop 8 (columns c.args.row) in
    let left = c.put_commaed-first.new.buffer in
    let front = put_front 168 (commaed first) lent _ left (omega (arith, c.if-buffer-lt-LEAST_ROW_BUFFER.false)) (rw c.numbers_of-numbers.ensures at c.put_commaed-first.ensures) in
    let room : c.put_commaed-first.result + 105 ≤ length left = omega (arith, front.0, first_short (goal.at.returns c).Start, c.put_commaed-first.auto.buffer, c.if-buffer-lt-LEAST_ROW_BUFFER.false) in
    let end = was-put 105 (comma_line others) c.put_commaed-first.result left room _ _ (rw c.numbers_of-numbers.ensures at c.put_numbers.ensures) in
    let whole : row_text c.args.row ≡ commaed first ++ comma_line others = line-parts first others (omega arith) in
    text-written (row_text c.args.row) lent _ _ c.if-buffer-lt-LEAST_ROW_BUFFER.false (rw whole (goes_on lent (commaed first) (comma_line others) left _ c.put_commaed-first.result _ front end.0 end.1))
