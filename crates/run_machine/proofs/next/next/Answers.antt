-- THE STEP meets its contract. Assumes nothing.
use mathlib.Core.Logic.{inl, inr}
use native.Mathlib.Omega.{arith}
use Rattle.run_machine.proofs.StepLaws.{small-steps, large-steps}
use Rattle.run_machine.proofs.next.next.Goals as goal

pub returns-then-buf-lt-LEAST_READ : goal.returns-then-buf-lt-LEAST_READ
returns-then-buf-lt-LEAST_READ c =
    small-steps c.args.machine c.args.event c.args.buf.now c.args.out.now _ _
    (λ ten roomy. elim c.then-buf-lt-LEAST_READ.either [ inl less ↦ omega (arith, less, ten) | inr less ↦ let short = less.1 in omega (arith, short, roomy) ]) c.stopped.ensures

pub returns : goal.returns
returns c = large-steps c.args.machine c.args.event c.args.buf.now c.args.out.now _ _ (omega arith) (omega arith) c.step.auto.out c.step.ensures
