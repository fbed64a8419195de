-- `records::states::state_unused` meets its contract. Assumes nothing.
use mathlib.Core.List.{[], ◌∷◌}
use lib.Dec.{eqb}
use Rattle.rules.specs.Modes.{is_off}
use Rattle.records.proofs.ZeroTests.{every-from}
use Rattle.records.proofs.states.state_unused.Goals as goal

pub returns : goal.returns
returns c =
    let s = c.args.state in
    rw c.is_off.ensures (every-from (λ n. eqb n 0) (is_off s.mode) (s.run ∷ s.clock ∷ s.starts ∷ s.stops ∷ s.energy ∷ s.fuel ∷ []))
