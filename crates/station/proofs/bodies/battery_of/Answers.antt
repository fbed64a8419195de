-- `station::bodies::battery_of` meets its contract. Assumes nothing.
use mathlib.Core.Path.{◌∙◌}
use native.Mathlib.Omega.{arith}
use Rattle.station.proofs.Reading.{number_in}
use Rattle.station.proofs.bodies.battery_of.Goals as goal

pub returns : goal.returns
returns c =
    let s = c.args.s.now in
    λ i. record {
      power = (c.word_at.ensures ∙ number_in 4 2 0 68 s (omega arith)) i;
      efficiency = (c.word_at-2.ensures ∙ number_in 4 2 1 68 s (omega arith)) i;
      least = (c.field_at.ensures.value ∙ number_in 8 3 0 76 s (omega arith)) i;
      most = (c.field_at-2.ensures.value ∙ number_in 8 3 1 76 s (omega arith)) i;
      start = (c.field_at-3.ensures.value ∙ number_in 8 3 2 76 s (omega arith)) i;
    }
