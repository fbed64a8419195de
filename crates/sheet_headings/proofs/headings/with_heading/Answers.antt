-- `sheet_headings::headings::with_heading` meets its contract. Assumes nothing.
use mathlib.Core.Path.{sym, ◌∙◌}
use borrow.Author.Tests.{eqb-true}
use borrow.Author.Rules.{rules}
use Rattle.rules.specs.SampleFile.{sample_sheet}
use Rattle.sheet_headings.proofs.HeadingLaws.{heading-blank, heading-unknown, heading-twice, heading-new, headings-end, occurs-in}
use Rattle.sheet_headings.proofs.headings.with_heading.Goals as goal

pub returns-then-is_empty : goal.returns-then-is_empty
returns-then-is_empty c = rw (heading-blank _ _ _ _ (eqb-true _ 0 (sym c.is_empty.ensures ∙ c.if-is_empty.true)))

pub returns-then-name-gt3 : goal.returns-then-name-gt3
unfolding sample_sheet
returns-then-name-gt3 c = rw (heading-unknown _ _ _ _ (search rules) _ c.name_of-name.ensures c.if-name-gt3.true)

pub returns-then-name-read : goal.returns-then-name-read
unfolding sample_sheet
returns-then-name-read c = rw (heading-twice _ _ _ _ (search rules) _ c.name_of-name.ensures (search rules) (sym (occurs-in _ _) ∙ c.if-name-read.true))

pub returns : goal.returns
unfolding sample_sheet
returns c = rw (heading-new _ _ _ _ (search rules) _ c.name_of-name.ensures (search rules) (sym (occurs-in _ _) ∙ c.if-name-read.false), headings-end)
