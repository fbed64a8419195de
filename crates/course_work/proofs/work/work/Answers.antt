-- `work` meets its contract. Assumes nothing.
use native.Mathlib.Omega.{arith}
use lib.ListN.{length-take}
use Rattle.course_work.proofs.MoveLaws.{none_left, no_room}
use Rattle.course_work.proofs.work.work.Goals as goal

pub returns-then-course-eq0 : goal.returns-then-course-eq0
returns-then-course-eq0 c = rw c.waiting.ensures (none_left c.args.course c.args.chunk.now c.args.at c.args.ended c.args.rows.now _ c.min-next.ensures c.if-course-eq0.true)

pub returns-then-places-eq0 : goal.returns-then-places-eq0
returns-then-places-eq0 c = rw c.waiting-then-places-eq0.ensures (no_room c.args.course c.args.chunk.now c.args.at c.args.ended c.args.rows.now _ c.min-next.ensures c.if-places-eq0.true)

pub slice_bounds-some_seconds-end : goal.slice_bounds-some_seconds-end
slice_bounds-some_seconds-end c = simp length-take (omega (arith, c.min-want.ensures, c.min.ensures))

pub slice_bounds-some_seconds-end-2 : goal.slice_bounds-some_seconds-end-2
slice_bounds-some_seconds-end-2 c = simp length-take (omega (arith, c.min-want.ensures, c.min.ensures))

pub slice_bounds-some_seconds-end-3 : goal.slice_bounds-some_seconds-end-3
slice_bounds-some_seconds-end-3 c = simp length-take (omega (arith, c.min-want.ensures, c.min.ensures))

pub some_seconds-requires : goal.some_seconds-requires
some_seconds-requires c = record { some = simp length-take (omega (arith, c.min-want.ensures, c.min.ensures)); most = simp length-take (omega (arith, c.min-want.ensures, c.min.ensures)); want-left = simp length-take (omega (arith, c.min-want.ensures, c.min.ensures)); want-room = simp length-take (omega (arith, c.min-want.ensures, c.min.ensures)) }
