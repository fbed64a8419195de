-- THE STEP meets its contract. Assumes nothing.
use Rattle.check_machine.proofs.StopLaws.{stop-steps, small-steps, large-steps, at_stage}
use Rattle.check_machine.proofs.StepLaws.{answer-steps, line-answer-steps, to-lines-steps}
use Rattle.check_machine.specs.Holds.{StepsFrom}
use Rattle.check_machine.specs.Stages.{Machine}
use Rattle.check_machine.specs.declared.state.Stage.{Stage}
use Rattle.std.proofs.Common.{◌≡◌, ◌∙◌, ◌<◌, ◌≤◌, ◌==◌, true, length, rules, refl, sym, subst, arith}
use Rattle.check_machine.proofs.next.next.Goals as goal
use Rattle.check_machine.proofs.next.next.Goals.{then-is_empty-via-then-is_empty, then-is_empty-via-else-is_empty+then-out-lt-LEAST_ROW_BUFFER}

pub returns-then-is_empty : goal.returns-then-is_empty
returns-then-is_empty c =
    let small = λ (none : 0 < length c.args.buf.now → 256 ≤ length c.args.out.now → ⊥). small-steps c.args.machine c.args.event c.args.buf.now c.args.out.now _ _ none c.stopped.ensures in
    elim c.then-is_empty.branch [
      | then-is_empty-via-then-is_empty w ↦
          small
          (λ some roomy. let empty : ((length c.args.buf.now) == 0) ≡ true = sym c.is_empty.ensures ∙ w.if-is_empty.true in absurd (search (rules, empty, some)))
      | then-is_empty-via-else-is_empty+then-out-lt-LEAST_ROW_BUFFER w ↦ small (λ some roomy. let less = w.if-out-lt-LEAST_ROW_BUFFER.true in omega (arith, less, roomy))
    ]

pub returns-in-Counting : goal.returns-in-Counting
returns-in-Counting c = large-steps c.args.machine c.args.event c.args.buf.now c.args.out.now _ _ refl (at_stage c.args.machine.stage (Stage.Counting) c.args.machine.held c.args.event c.args.buf.now c.args.out.now _ _ c.in-Counting.is (c.counted.ensures c.args.buf.now c.args.out.now))

pub returns-in-Judging : goal.returns-in-Judging
returns-in-Judging c = large-steps c.args.machine c.args.event c.args.buf.now c.args.out.now _ _ c.judged.auto.out (at_stage c.args.machine.stage (Stage.Judging) c.args.machine.held c.args.event c.args.buf.now c.args.out.now _ _ c.in-Judging.is c.judged.ensures)

pub returns-in-Answer : goal.returns-in-Answer
returns-in-Answer c = large-steps c.args.machine c.args.event c.args.buf.now c.args.out.now _ _ refl (at_stage c.args.machine.stage (_) c.args.machine.held c.args.event c.args.buf.now c.args.out.now _ _ c.in-Answer.is (subst (λ (m : Machine). StepsFrom (Stage.Answer c.in-Answer.field-0 c.in-Answer.word) c.args.machine.held c.args.event c.args.buf.now c.args.out.now m c.args.out.now) (sym c.moved.ensures) (answer-steps c.in-Answer.field-0 c.in-Answer.word c.args.machine.held c.args.event c.args.buf.now c.args.out.now)))

pub returns-in-LineAnswer : goal.returns-in-LineAnswer
returns-in-LineAnswer c = large-steps c.args.machine c.args.event c.args.buf.now c.args.out.now _ _ refl (at_stage c.args.machine.stage (_) c.args.machine.held c.args.event c.args.buf.now c.args.out.now _ _ c.in-LineAnswer.is (subst (λ (m : Machine). StepsFrom (Stage.LineAnswer c.in-LineAnswer.field-0 c.in-LineAnswer.refusal) c.args.machine.held c.args.event c.args.buf.now c.args.out.now m c.args.out.now) (sym c.moved-in-LineAnswer.ensures) (line-answer-steps c.in-LineAnswer.field-0 c.in-LineAnswer.refusal c.args.machine.held c.args.event c.args.buf.now c.args.out.now)))

pub returns-in-ToLines : goal.returns-in-ToLines
returns-in-ToLines c = large-steps c.args.machine c.args.event c.args.buf.now c.args.out.now _ _ refl (at_stage c.args.machine.stage (_) c.args.machine.held c.args.event c.args.buf.now c.args.out.now _ _ c.in-ToLines.is (subst (λ (m : Machine). StepsFrom (Stage.ToLines c.in-ToLines.refusal) c.args.machine.held c.args.event c.args.buf.now c.args.out.now m c.args.out.now) (sym c.moved-in-ToLines.ensures) (to-lines-steps c.in-ToLines.refusal c.args.machine.held c.args.event c.args.buf.now c.args.out.now)))

pub returns-in-Lines : goal.returns-in-Lines
returns-in-Lines c = large-steps c.args.machine c.args.event c.args.buf.now c.args.out.now _ _ refl (at_stage c.args.machine.stage (_) c.args.machine.held c.args.event c.args.buf.now c.args.out.now _ _ c.in-Lines.is (c.lines_read.ensures c.args.out.now))

pub returns-in-Stop : goal.returns-in-Stop
returns-in-Stop c = large-steps c.args.machine c.args.event c.args.buf.now c.args.out.now _ _ refl (at_stage c.args.machine.stage _ c.args.machine.held c.args.event c.args.buf.now c.args.out.now _ _ c.in-Stop.is (stop-steps _ c.args.machine.held c.args.machine.held c.args.event c.args.event c.args.buf.now c.args.out.now c.args.out.now _ _ c.stopped-in-Stop.ensures refl refl))
