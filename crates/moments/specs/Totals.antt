-- The station totals with a second's watts, as their type holds them: of a possible record they are the rules' own (proofs/TotalsRuled.antt).
use Rattle.std.specs.Prelude.{◌+◌, ◌≤◌}
use Rattle.rules.specs.Quantities.{Totals}
use Rattle.rules.specs.Quantities.{Watts}
use Rattle.set_moves.specs.InType.{in64}

abbrev pub plus_in : Totals → Watts → Totals
plus_in t w =
    record {
      offered = in64 (t.offered + w.offered);
      load = in64 (t.load + w.load);
      shed = in64 (t.shed + w.shed);
      solar = in64 (t.solar + w.solar);
      charge = in64 (t.charge + w.charge);
      spill = in64 (t.spill + w.spill);
      give = in64 (t.give + w.give);
      diesel = in64 (t.diesel + w.diesel);
      unserved = in64 (t.unserved + w.unserved);
    }

-- how large they get in a possible record: 50,000,000 W for each of 316,224,000 seconds
pub record SmallTotals (t : Totals) : Type 0 where
  pub offered : t.offered ≤ 15_811_200_000_000_000
  pub load : t.load ≤ 15_811_200_000_000_000
  pub shed : t.shed ≤ 15_811_200_000_000_000
  pub solar : t.solar ≤ 15_811_200_000_000_000
  pub charge : t.charge ≤ 15_811_200_000_000_000
  pub spill : t.spill ≤ 15_811_200_000_000_000
  pub give : t.give ≤ 15_811_200_000_000_000
  pub diesel : t.diesel ≤ 15_811_200_000_000_000
  pub unserved : t.unserved ≤ 15_811_200_000_000_000
