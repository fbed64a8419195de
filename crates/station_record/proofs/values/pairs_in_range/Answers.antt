-- `station_record::values::pairs_in_range` meets its contract. Assumes nothing.
use borrow.Author.Rules.{rules}
use borrow.Author.Tests.{tests}
use Prim.Native.Nat.{ℕ}
use mathlib.Core.Bool.{Bool}
use mathlib.Core.Path.{refl, ◌∙◌}
use lib.ListN.{get_or}
use Rattle.std.proofs.lemmas.Iterator.{YieldsList-from_range}
use Rattle.std.proofs.lemmas.Iterator.Search.{all_from_yields_List}
use Rattle.rules.specs.StationRecord.{pair_right}
use Rattle.station_record.proofs.Every.{five-places}
use Rattle.station_record.proofs.values.pairs_in_range.Goals as goal

pub returns : goal.returns
returns c =
    let a = c.args in
    let right : ℕ → Bool = λ j. pair_right a.points j (get_or a.loads j 0) (get_or a.rates j 0) in
    all_from_yields_List right _ _ _ c.all.ensures.ran (YieldsList-from_range 0 5 5 refl refl) (λ x b q k. search (rules, tests)) ∙ five-places right
