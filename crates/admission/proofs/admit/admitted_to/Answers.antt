-- `admission::admit::admitted_to` meets its contract. Assumes nothing.
use Prim.Native.Nat.{◌*◌}
use mathlib.Core.Path.{◌≡◌, ap, sym, ◌∙◌}
use native.Mathlib.Omega.{arith}
use lib.ListN.{drop}
use Rattle.admission.specs.Admission.{first_inputs}
use Rattle.admission.proofs.Admitting.{admitting-start, admitting-none, admitting-more, all-admitted, going, told-refused, told-accepted, rest_of}
use Rattle.admission.proofs.admit.admitted_to.Goals as goal
use Rattle.admission.proofs.admit.admitted_to.Goals.{After-first_inputs-x}

-- the inputs of the second at the place that the loop has come to
asked : (c : After-first_inputs-x) → c.first_inputs-x.result ≡ first_inputs (drop (3 * c.loop-count.count) c.args.inputs.now)
asked c = c.first_inputs-x.ensures ∙ ap first_inputs (rest_of c.args.inputs.now (3 * c.loop-count.count))

pub loop-count-init : goal.loop-count-init
loop-count-init c = admitting-start c.args.done c.args.inputs.now c.args.most c.requires

pub returns-then-is_err : goal.returns-then-is_err
returns-then-is_err c =
    admitting-none c.loop-count.invariant c.loop-count-test.true
    (rw (← asked (goal.at.returns-then-is_err c).After-first_inputs-x) (told-refused _ _ _ _ c.admit.ensures (sym c.is_err.ensures.value ∙ c.if-is_err.true)))

pub overflow_add-second : goal.overflow_add-second
overflow_add-second c =
    record { fits = omega (arith, going _ _ _ (told-accepted _ _ _ _ c.admit.ensures (sym c.is_err.ensures.value ∙ c.if-is_err.false))) }

pub loop-count-preserved : goal.loop-count-preserved
loop-count-preserved c =
    admitting-more c.loop-count.invariant c.loop-count-test.true
    (rw (← asked (goal.at.loop-count-preserved c).After-first_inputs-x) (told-accepted _ _ _ _ c.admit.ensures (sym c.is_err.ensures.value ∙ c.if-is_err.false)))

pub returns : goal.returns
returns c = let e : c.args.most ≡ c.loop-count.count = omega (arith, c.loop-count.invariant.up_to) in e ∙ all-admitted c.loop-count.invariant c.loop-count-test.false
