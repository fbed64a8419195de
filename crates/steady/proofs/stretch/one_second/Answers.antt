-- `steady::stretch::one_second` meets its contract. Assumes nothing.
use borrow.Author.Rules.{rules}
use Prim.Native.Nat.{ℕ}
use mathlib.Core.Path.{◌≡◌, sym, ap, ◌∙◌, subst}
use mathlib.Core.List.{List, ◌∷◌}
use native.Mathlib.Omega.{arith}
use lib.ListN.{drop}
use Rattle.rules.specs.declared.run.Inputs.{Inputs}
use Rattle.rules.specs.declared.run.Run.{Run}
use Rattle.rules.specs.declared.run.Step.{Step}
use Rattle.rules.specs.Second.{step}
use Rattle.rules.specs.Seconds.{inputs_each}
use Rattle.rules.proofs.Shapes.{Tables}
use Rattle.rows.specs.RowNumbers.{row_first}
use Rattle.moments.specs.Parts.{run_of}
use Rattle.steps.specs.Steps.{SteppedBy}
use Rattle.admission.specs.Admission.{first_inputs}
use Rattle.dispatch.specs.Working.{Admits, Works}
use Rattle.admission.proofs.Each.{each-length, first-each}
use Rattle.steps.proofs.Ruled.{stepped-is}
use Rattle.dispatch.proofs.Working.{next-admitted, works-one}
use Rattle.steady.proofs.stretch.one_second.Goals as goal
use Rattle.steady.proofs.stretch.one_second.Goals.{Start}

-- the station's tables have their lengths
tables : (c : Start) → Tables c.args.st
tables c = record { sets-length = search rules; configs-length = search rules }

pub returns : goal.returns
returns c =
    let a = c.args in
    let pre = c.requires in
    let x : Inputs = first_inputs a.inputs.now in
    let r : Run = run_of a.moment a.states a.decided.now in
    let others : List Inputs = inputs_each (drop 3 a.inputs.now) in
    let are : inputs_each a.inputs.now ≡ x ∷ others = first-each a.inputs.now (omega (arith, pre.some, each-length a.inputs.now)) in
    let admits : Admits a.st r (x ∷ others) = subst (Admits a.st r) are pre.admits in
    let taken = subst (λ (y : Inputs). SteppedBy a.st a.caps.now r y c.step-stepped.result c.step-stepped.new.decided) c.first_inputs.ensures c.step-stepped.ensures in
    let same = stepped-is a.st (tables (goal.at.returns c).Start) a.caps.now pre.rated r pre.sixty x (next-admitted admits) c.step-stepped.result _ taken in
    let one = works-one a.st r x others a.rows.now admits (omega (arith, pre.room, pre.some)) in
    let ran = subst (λ (z : Run). Works a.st r (x ∷ others) a.rows.now 1 z (row_first (step a.st r x).row a.rows.now)) (sym (ap (λ (k : Step). k.run) same)) one in
    let left = c.put_row_numbers.ensures ∙ ap (λ (k : Step). row_first k.row a.rows.now) same in
    let after : Run = run_of c.step-stepped.result.moment c.step-stepped.result.states c.step-stepped.new.decided in
    record {
      works = subst (λ (ys : List Inputs). Works a.st r ys a.rows.now 1 after c.put_row_numbers.new.rows) (sym are) (subst (λ (l : List ℕ). Works a.st r (x ∷ others) a.rows.now 1 after l) (sym left) ran);
      some = omega arith;
    }
