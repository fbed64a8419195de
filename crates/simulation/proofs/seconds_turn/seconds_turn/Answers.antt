-- `seconds_turn` meets its contract. Assumes nothing.
use mathlib.Core.Path.{sym, ◌∙◌}
use native.Mathlib.Omega.{arith}
use lib.ListN.{length-take}
use Rattle.run_phases.proofs.RoomLaws.{row_room, first-room}
use Rattle.simulation.proofs.RowsTurn.{none-left-turn, no-room-turn}
use Rattle.simulation.proofs.seconds_turn.seconds_turn.Goals as goal

pub returns-then-left-eq0 : goal.returns-then-left-eq0
returns-then-left-eq0 c = rw c.in_phase.ensures (none-left-turn c.args.t c.args.chunk.now c.args.ended c.args.out.now c.requires.0 c.requires.1 c.requires.2 (sym c.seconds_to_work-left.ensures ∙ c.if-left-eq0.true))

pub returns-then-room-least_room : goal.returns-then-room-least_room
returns-then-room-least_room c = no-room-turn c.args.t c.args.chunk.now c.args.ended c.args.out.now c.requires.0 c.requires.1 c.requires.2 c.least_room.result (λ none. c.least_room.ensures ∙ first-room c.args.t.written none) c.if-room-least_room.true

pub slice_bounds-some_rows-end : goal.slice_bounds-some_rows-end
slice_bounds-some_rows-end c = simp length-take (omega (arith, c.min-want.ensures, c.min.ensures, c.if-left-eq0.false, c.if-room-least_room.false, c.least_room.ensures, row_room c.args.t.written))

pub some_rows-requires : goal.some_rows-requires
some_rows-requires c = (c.requires.2, record { phase-is = c.requires.0; next-in = c.requires.1; some_left = omega (arith, c.seconds_to_work-left.ensures, c.if-left-eq0.false); some = simp length-take (omega (arith, c.min-want.ensures, c.min.ensures, c.if-left-eq0.false, c.if-room-least_room.false, c.least_room.ensures, row_room c.args.t.written)); want-room = simp length-take (omega (arith, c.min-want.ensures, c.min.ensures, c.if-left-eq0.false, c.if-room-least_room.false, c.least_room.ensures, row_room c.args.t.written)) })
