-- `some_rows` meets its contract: the text of the rows of the seconds worked stands in the buffer. Assumes nothing.
use Prim.Native.Nat.{◌*◌, ◌≤◌}
use native.Mathlib.Omega.{arith}
use lib.ListN.{length, take, drop, length-take}
use Rattle.rules.proofs.Shapes.{Tables}
use Rattle.row_texts.specs.RowLines.{LinesPut}
use Rattle.simulation.proofs.LineLaws.{rest-is}
use Rattle.simulation.proofs.RowsTurn.{numbers_fit, rows-room, rows-turn}
use Rattle.simulation.proofs.seconds_turn.some_rows.Goals as goal
use Rattle.simulation.proofs.seconds_turn.some_rows.Goals.{Start, After-work-moved, After-put_rows-put}

-- the station's tables have their lengths
tables : (c : Start) → Tables c.args.t.simulation.course.station
tables c =
    let good = c.well_formed.0.1.1.0.1.1.1.0.1.1.0.1.1.1.1.1.1 in
    record { sets-length = good.0.1.0.1; configs-length = good.1.0.1.0.1 }

fits : (c : After-work-moved) → 13 * c.work-moved.result.seconds ≤ length c.work-moved.new.rows
fits c = numbers_fit c.args.t c.args.chunk.now c.args.ended c.args.out.now c.args.rows.now c.requires.0 c.requires.1 (tables c.before.before.before.before.before.before.before) _ _ c.work-moved.ensures

-- the rows were put into the tail that was lent
put : (c : After-put_rows-put) → LinesPut (take (13 * c.work-moved.result.seconds) c.work-moved.new.rows) (drop c.args.t.written c.args.out.now) c.put_rows-put.result c.put_rows-put.new.out
put c = rw rest-is at c.put_rows-put.ensures

pub overflow_mul-numbers : goal.overflow_mul-numbers
overflow_mul-numbers c =
    record { fits = omega (arith, fits (goal.at.overflow_mul-numbers c).After-work-moved, c.work-moved.auto.rows, c.well_formed.1.1.1.0.0) }

pub slice_bounds-put_rows-end-2 : goal.slice_bounds-put_rows-end-2
slice_bounds-put_rows-end-2 c = simp length-take (omega (arith, fits (goal.at.slice_bounds-put_rows-end-2 c).After-work-moved))

pub slice_bounds-put_rows-count : goal.slice_bounds-put_rows-count
slice_bounds-put_rows-count c = c.requires.0

pub slice_bounds-put_rows-start : goal.slice_bounds-put_rows-start
slice_bounds-put_rows-start c = c.requires.0

pub overflow_add-result : goal.overflow_add-result
overflow_add-result c =
    let room = rows-room c.args.t c.args.chunk.now c.args.ended c.args.out.now c.args.rows.now c.requires.0 c.requires.1 (tables (goal.at.overflow_add-result c).Start) _ _ c.work-moved.ensures _ _ (put (goal.at.overflow_add-result c).After-put_rows-put) in
    omega (arith, room, c.well_formed.1.1.1.1.0.0)

pub returns : goal.returns
returns c =
    rw (c.from-2.ensures, c.from.ensures) (rows-turn c.args.t c.args.chunk.now c.args.ended c.args.out.now c.args.rows.now c.requires.0 c.requires.1 (tables (goal.at.returns c).Start) _ _ c.work-moved.ensures _ _ (put (goal.at.returns c).After-put_rows-put))
