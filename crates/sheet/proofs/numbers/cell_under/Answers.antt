-- `sheet::numbers::cell_under` meets its contract. Assumes nothing.
use Prim.Native.Nat.{ℕ, zero, suc, ◌≤◌, ◌<◌}
use mathlib.Core.Path.{◌≡◌, refl, ◌∙◌}
use mathlib.Core.List.{List}
use native.Mathlib.Omega.{arith}
use Rattle.rules.specs.SampleFile.{sample_sheet, time_cell, power_cell, cell}
use Rattle.sheet.proofs.numbers.cell_under.Goals as goal

module _ (line : ℕ) (s : List ℕ) where
  time-under : (name : ℕ) → name ≡ 0 → time_cell line 316_223_999 s ≡ cell line sample_sheet.limits name s
  unfolding cell sample_sheet
  time-under name h = rw h

  power-under : (name : ℕ) → (name ≡ 0 → ⊥) → name ≤ 3 → power_cell line 50_000_000 s ≡ cell line sample_sheet.limits name s
  unfolding cell sample_sheet
  power-under zero n h = absurd (n refl)
  power-under (suc zero) n h = refl
  power-under (suc (suc zero)) n h = refl
  power-under (suc (suc (suc zero))) n h = refl
  power-under (suc (suc (suc (suc name)))) n h = absurd (omega arith)

  -- no heading has such a place
  power-beyond : (name : ℕ) → 3 < name → power_cell line 0 s ≡ cell line sample_sheet.limits name s
  unfolding cell sample_sheet
  power-beyond zero h = absurd (omega arith)
  power-beyond (suc zero) h = absurd (omega arith)
  power-beyond (suc (suc zero)) h = absurd (omega arith)
  power-beyond (suc (suc (suc zero))) h = absurd (omega arith)
  power-beyond (suc (suc (suc (suc name)))) h = refl

pub returns-then-name-eq0 : goal.returns-then-name-eq0
returns-then-name-eq0 c = λ line. c.time.ensures line ∙ time-under line _ _ c.if-name-eq0.true

pub returns-then-name-le3 : goal.returns-then-name-le3
returns-then-name-le3 c = λ line. c.power.ensures line ∙ power-under line _ _ c.if-name-eq0.false c.if-name-le3.true

pub returns : goal.returns
returns c = λ line. c.power-2.ensures line ∙ power-beyond line _ _ c.if-name-le3.false
