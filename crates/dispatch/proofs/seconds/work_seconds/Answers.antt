-- `dispatch::seconds::work_seconds` meets its contract. Assumes nothing.
-- ---- a second, and its row
use Prim.Native.Nat.{ℕ, suc, ◌+◌, ◌-◌, ◌*◌, ◌≤◌}
use mathlib.Core.Path.{◌≡◌, refl, ap, ◌∙◌, subst}
use mathlib.Core.List.{List, ◌∷◌, ◌++◌}
use native.Mathlib.Omega.{arith}
use borrow.Author.Rules.{rules}
use lib.ListN.{length, take, drop, length-drop}
use Rattle.rules.specs.declared.run.Inputs.{Inputs}
use Rattle.rules.specs.declared.run.Run.{Run}
use Rattle.rules.specs.declared.run.Step.{Step}
use Rattle.rules.specs.Second.{step}
use Rattle.rules.specs.Seconds.{inputs_each}
use Rattle.laws.specs.Admitted.{Admitted}
use Rattle.rows.specs.RowNumbers.{row_first}
use Rattle.rules.proofs.Shapes.{Tables}
use Rattle.moments.specs.Parts.{run_of}
use Rattle.steps.specs.Steps.{SteppedBy}
use Rattle.steps.proofs.Ready.{rated}
use Rattle.steps.proofs.Ruled.{step_of, stepped-is}
use Rattle.admission.specs.Admission.{first_inputs}
use Rattle.admission.proofs.Admitting.{rest_of}
use Rattle.admission.proofs.Each.{each_at}
use Rattle.dispatch.specs.Working.{Admits, Works}
use Rattle.dispatch.proofs.Working.{works-start, works-length, works-step, next-admitted, back_is}
use Rattle.dispatch.proofs.seconds.work_seconds.Goals as goal
use Rattle.dispatch.proofs.seconds.work_seconds.Goals.{After-put_row_numbers}

module _ (c : After-put_row_numbers) where
  -- the station's tables have their lengths
  tables : Tables c.args.st
  tables = record { sets-length = search rules; configs-length = search rules }

  abbrev i : ℕ
  i = c.loop-i.i

  abbrev r : Run
  r = run_of c.loop-i.moment c.loop-i.states c.loop-i.decided

  abbrev x : Inputs
  x = first_inputs (drop (3 * i) c.args.inputs.now)

  here : drop i (inputs_each c.args.inputs.now) ≡ x ∷ drop (suc i) (inputs_each c.args.inputs.now)
  here = each_at c.args.inputs.now i (omega (arith, c.requires.1, c.loop-i-test.true))

  admitted : Admitted c.args.st r x
  admitted = next-admitted (subst (Admits c.args.st r) here c.loop-i.invariant.0.admits)

  asked : c.first_inputs-x.result ≡ x
  asked = c.first_inputs-x.ensures ∙ ap first_inputs (rest_of c.args.inputs.now (3 * i))

  same : step_of (run_of c.step-stepped.result.moment c.step-stepped.result.states c.step-stepped.new.decided) c.step-stepped.result.row ≡ step c.args.st r x
  same =
      let caps = rated c.args.st tables admitted.station-given _ c.capacities-caps.ensures in
      let taken = subst (λ (y : Inputs). SteppedBy c.args.st c.capacities-caps.result r y c.step-stepped.result c.step-stepped.new.decided) asked c.step-stepped.ensures in
      stepped-is c.args.st tables _ caps r c.loop-i.invariant.2 x admitted c.step-stepped.result _ taken

  has-place : 13 ≤ length (drop (13 * i) c.loop-i.rows)
  has-place = omega (arith, length-drop (13 * i) c.loop-i.rows, c.loop-i.invariant.3, c.requires.2, c.loop-i-test.true)

  abbrev rows' : List ℕ
  rows' = take (13 * i) c.loop-i.rows ++ (c.put_row_numbers.new.rows ++ drop (length c.loop-i.rows - 13 * i) (drop (13 * i) c.loop-i.rows))

  back : rows' ≡ take (13 * i) c.loop-i.rows ++ row_first (step c.args.st r x).row (drop (13 * i) c.loop-i.rows)
  back =
      back_is c.loop-i.rows _ (13 * i)
      ∙ ap (λ (l : List ℕ). take (13 * i) c.loop-i.rows ++ l)
      (c.put_row_numbers.ensures ∙ ap (row_first c.step-stepped.result.row) (rest_of c.loop-i.rows (13 * i)) ∙ ap (λ (k : Step). row_first k.row (drop (13 * i) c.loop-i.rows)) same)

  worked : Works c.args.st (run_of c.moment_of-moment.result c.args.run.sets c.args.run.decided) (inputs_each c.args.inputs.now) c.args.rows.now (i + 1)
      (run_of c.step-stepped.result.moment c.step-stepped.result.states c.step-stepped.new.decided) rows'
  worked = rw (back, ap (λ (k : Step). k.run) same) (works-step c.loop-i.invariant.0 x _ here has-place)

pub loop-i-init : goal.loop-i-init
loop-i-init c =
    (works-start c.args.st _ (inputs_each c.args.inputs.now) c.args.rows.now (rw c.moment_of-moment.ensures c.requires.0), omega arith, search rules, refl)

pub loop-i-preserved : goal.loop-i-preserved
loop-i-preserved c =
    let put = (goal.at.loop-i-preserved c).After-put_row_numbers in
    let size = works-length (worked put) (omega (arith, c.requires.2, c.loop-i-test.true)) in
    (worked put, omega (arith, c.loop-i-test.true), search rules, size)
