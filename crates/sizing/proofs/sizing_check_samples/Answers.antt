-- `sizing::sizing_check_samples` meets its contract. Assumes nothing.
use mathlib.Core.Path.{◌∙◌}
use Rattle.sizing.proofs.SheetAsked.{zero-for, sheet-verdict}
use Rattle.sizing.proofs.sizing_check_samples.Goals as goal

pub returns : goal.returns
returns c = c.into.ensures ∙ rw c.and.ensures (zero-for c.check_samples.result) ∙ sheet-verdict _ _ c.check_samples.ensures
