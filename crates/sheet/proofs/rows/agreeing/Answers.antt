-- `sheet::rows::agreeing` meets its contract. Assumes nothing.
use mathlib.Core.Path.{◌≡◌}
use mathlib.Core.List.{[], ◌∷◌}
use Rattle.sheet.specs.Rows.{sample_under}
use Rattle.sheet.proofs.RowLaws.{above-load, row-whole, under-headings}
use Rattle.sheet.proofs.rows.agreeing.Goals as goal
use Rattle.sheet.proofs.rows.agreeing.Goals.{After-value_under-3}

-- the values as the rules put them under their headings
abbrev Is : After-value_under-3 → Type 0
Is c =
    let a = c.args in
    record { at = a.at; load = c.value_under.result; solar = c.value_under-2.result; sheddable = c.value_under-3.result }
    ≡ sample_under a.columns (a.at ∷ a.powers.second ∷ a.powers.third ∷ a.powers.fourth ∷ [])

sample-is : (c : After-value_under-3) → Is c
sample-is c =
    let a = c.args in
    under-headings a.columns a.at _ _ _ _ _ _ c.value_under.ensures c.value_under-2.ensures c.value_under-3.ensures

pub returns-then-sample : goal.returns-then-sample
returns-then-sample c =
    let a = c.args in
    above-load a.columns a.line _ _ (sample-is (goal.at.returns-then-sample c).After-value_under-3) c.if-sample.true

pub returns : goal.returns
returns c =
    let a = c.args in
    row-whole a.columns a.line _ _ (sample-is (goal.at.returns c).After-value_under-3) c.if-sample.false
