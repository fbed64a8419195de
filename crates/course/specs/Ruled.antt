-- Document 01, the seconds of a run one after the other, of which the rules refuse none; and inputs for which they refuse none.
use Rattle.std.specs.Prelude.{◌≤◌, ◌≡◌, List, [], ◌∷◌}
use Rattle.rules.specs.declared.station.Station.{Station}
use Rattle.rules.specs.declared.run.Inputs.{Inputs}
use Rattle.rules.specs.declared.run.Run.{Run}
use Rattle.rules.specs.Answers.{accepted}
use Rattle.rules.specs.Second.{step}
use Rattle.rules.specs.Seconds.{ruled}

-- the rules refuse none of the seconds of these inputs, from a record on
unfoldable pub AllRuled : Station → List Inputs → Run → Type 0
AllRuled st [] r = Unit {0}
AllRuled st (x ∷ xs) r = (ruled st r x ≡ accepted (step st r x)) × AllRuled st xs (step st r x).run

-- no power over its limit, and no more sheddable load than load: what a second does not refuse (19, 20)
pub record Right (x : Inputs) : Type 0 where
  pub load-most : x.load ≤ 50_000_000
  pub solar-most : x.solar ≤ 50_000_000
  pub sheddable-most : x.sheddable ≤ 50_000_000
  pub sheddable-load : x.sheddable ≤ x.load

pub data AllRight : List Inputs → Type 0 where
  none : AllRight []
  more : {x : Inputs} {xs : List Inputs} → Right x → AllRight xs → AllRight (x ∷ xs)
