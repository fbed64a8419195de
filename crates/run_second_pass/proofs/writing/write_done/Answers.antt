-- `write_done` meets its contract. Assumes nothing.
use Rattle.run_second_pass.proofs.SecondPassLaws.{input-goes, room-goes, nothing-goes, writing-stops}
use Rattle.run_second_pass.proofs.writing.write_done.Goals as goal

pub returns-in-Further : goal.returns-in-Further
returns-in-Further c = writing-stops c.args.held c.args.wants c.args.buf.now c.args.out.now c.args.out.now _ _ c.in-Further.is c.stopped.ensures

pub returns-in-Input : goal.returns-in-Input
returns-in-Input c = input-goes c.args.held c.args.wants c.args.buf.now c.args.out.now c.args.out.now c.in-Input.is

pub returns-in-Room : goal.returns-in-Room
returns-in-Room c = room-goes c.args.held c.args.wants c.args.buf.now c.args.out.now _ _ c.in-Room.is c.hand_over.ensures

pub returns-in-Nothing : goal.returns-in-Nothing
returns-in-Nothing c = nothing-goes c.args.held c.args.wants c.args.buf.now c.args.out.now c.args.out.now _ c.in-Nothing.is c.finished.ensures
