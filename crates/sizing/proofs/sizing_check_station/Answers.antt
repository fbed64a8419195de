-- `sizing::sizing_check_station` meets its contract. Assumes nothing.
use mathlib.Core.Path.{ap, ◌∙◌}
use Rattle.rules.specs.Answers.{judged}
use Rattle.rules.specs.Sizing.{station_check}
use Rattle.sizing.specs.Screen.{screen_verdict}
use Rattle.sizing.proofs.SheetAsked.{zero-for}
use Rattle.sizing.proofs.sizing_check_station.Goals as goal

pub returns : goal.returns
unfolding station_check
returns c = c.into.ensures ∙ rw c.and.ensures (zero-for c.read_station.result) ∙ ap (λ a. screen_verdict (judged a)) c.read_station.ensures
