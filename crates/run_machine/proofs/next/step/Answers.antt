-- `step` meets its contract. Assumes nothing.
use Rattle.run_machine.proofs.StepLaws.{to-second-pass, answer-steps, at_stage}
use Rattle.run_stages.specs.StageSteps.{StepsFrom}
use Rattle.run_stages.specs.Stages.{Machine}
use Rattle.run_stages.specs.declared.state.Stage.{Stage}
use Rattle.run_stages.proofs.StopLaws.{stop-steps}
use mathlib.Core.Path.{refl, sym, subst}
use Rattle.run_machine.proofs.next.step.Goals as goal

pub returns-in-Counting : goal.returns-in-Counting
returns-in-Counting c = at_stage _ _ c.args.machine.held c.args.event c.args.buf.now c.args.out.now _ _ c.in-Counting.is c.counted.ensures

pub returns-in-Telling : goal.returns-in-Telling
returns-in-Telling c = at_stage _ _ c.args.machine.held c.args.event c.args.buf.now c.args.out.now _ _ c.in-Telling.is c.telling.ensures

pub returns-in-Judging : goal.returns-in-Judging
returns-in-Judging c = at_stage _ _ c.args.machine.held c.args.event c.args.buf.now c.args.out.now _ _ c.in-Judging.is c.judged.ensures

pub returns-in-AskSeconds : goal.returns-in-AskSeconds
returns-in-AskSeconds c = at_stage _ _ c.args.machine.held c.args.event c.args.buf.now c.args.out.now _ _ c.in-AskSeconds.is c.seconds_asked.ensures

pub returns-in-ToSecondPass : goal.returns-in-ToSecondPass
returns-in-ToSecondPass c = at_stage _ _ c.args.machine.held c.args.event c.args.buf.now c.args.out.now _ _ c.in-ToSecondPass.is (subst (λ (m : Machine). StepsFrom Stage.ToSecondPass c.args.machine.held c.args.event c.args.buf.now c.args.out.now m c.args.out.now) (sym c.moved.ensures) (to-second-pass c.args.machine.held c.args.event c.args.buf.now c.args.out.now))

pub returns-in-SecondPass : goal.returns-in-SecondPass
returns-in-SecondPass c = at_stage _ _ c.args.machine.held c.args.event c.args.buf.now c.args.out.now _ _ c.in-SecondPass.is c.second_read.ensures

pub returns-in-Write : goal.returns-in-Write
returns-in-Write c = at_stage _ _ c.args.machine.held c.args.event c.args.buf.now c.args.out.now _ _ c.in-Write.is c.written.ensures

pub returns-in-Answer : goal.returns-in-Answer
returns-in-Answer c = at_stage _ _ c.args.machine.held c.args.event c.args.buf.now c.args.out.now _ _ c.in-Answer.is (subst (λ (m : Machine). StepsFrom (Stage.Answer c.in-Answer.field-0 c.in-Answer.refusal) c.args.machine.held c.args.event c.args.buf.now c.args.out.now m c.args.out.now) (sym c.moved-in-Answer.ensures) (answer-steps c.args.machine.held c.in-Answer.field-0 c.in-Answer.refusal c.args.event c.args.buf.now c.args.out.now))

pub returns-in-Stop : goal.returns-in-Stop
returns-in-Stop c = at_stage _ _ c.args.machine.held c.args.event c.args.buf.now c.args.out.now c.args.out.now _ c.in-Stop.is (stop-steps _ c.args.machine.held c.args.event c.args.event c.args.buf.now c.args.out.now c.args.out.now _ _ c.stopped.ensures refl refl)
