-- How large the counts of a set of a possible record get.
use Rattle.std.specs.Prelude.{◌≤◌}
use Rattle.rules.specs.declared.run.SetState.{SetState}
use Rattle.rules.specs.RunRecord.{most_seconds}

-- the counts of a set: 10,000,000 W and 15,000,000,000 units of fuel for each of 316,224,000 seconds
pub record Small (s : SetState) : Type 0 where
  pub run-most : s.run ≤ most_seconds
  pub clock-most : s.clock ≤ most_seconds
  pub starts-most : s.starts ≤ most_seconds
  pub stops-most : s.stops ≤ most_seconds
  pub energy-most : s.energy ≤ 3_162_240_000_000_000
  pub fuel-most : s.fuel ≤ 4_743_360_000_000_000_000
