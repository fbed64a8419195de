-- `sheet::numbers::limited` meets its contract. Assumes nothing.
use mathlib.Core.Path.{sym, ◌∙◌}
use borrow.Author.Tests.{le-leb, lt-leb}
use Rattle.sheet.proofs.DigitLaws.{formed-number, formed-none}
use Rattle.sheet.proofs.numbers.limited.Goals as goal

pub returns-in_default : goal.returns-in_default
returns-in_default c = λ line form v e. rw (formed-none form v (sym c.in_default.is ∙ e))

pub returns-then-limit-value : goal.returns-then-limit-value
returns-then-limit-value c = λ line form v e. let t = formed-number form v _ (sym c.in-Some.is ∙ e) in rw (t.0, ← t.1, lt-leb _ _ c.if-limit-value.true)

pub returns : goal.returns
returns c = λ line form v e. let t = formed-number form v _ (sym c.in-Some.is ∙ e) in rw (t.0, ← t.1, le-leb _ _ c.if-limit-value.false)
