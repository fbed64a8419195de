-- `station_record::values::loads_rise` meets its contract. Assumes nothing.
use borrow.Author.Rules.{rules}
use borrow.Author.Tests.{tests}
use Prim.Native.Nat.{ℕ, suc}
use native.Mathlib.Numerals.{add-one}
use mathlib.Core.Bool.{Bool}
use mathlib.Core.Path.{refl, ◌∙◌}
use lib.ListN.{get_or}
use Rattle.std.proofs.lemmas.Iterator.{YieldsList-from_range}
use Rattle.std.proofs.lemmas.Iterator.Search.{all_from_yields_List}
use Rattle.rules.specs.StationRecord.{rises}
use Rattle.station_record.proofs.Every.{four-places}
use Rattle.station_record.proofs.values.loads_rise.Goals as goal

pub returns : goal.returns
returns c =
    let a = c.args in
    let right : ℕ → Bool = λ j. rises a.points j (get_or a.loads j 0) (get_or a.loads (suc j) 0) in
    all_from_yields_List right _ _ _ c.all.ensures.ran (YieldsList-from_range 0 4 4 refl refl) (λ x b q k. search (rules, tests, add-one)) ∙ four-places right
