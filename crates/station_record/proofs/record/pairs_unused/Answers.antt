-- `station_record::record::pairs_unused` meets its contract. Assumes nothing.
use borrow.Author.Rules.{rules}
use borrow.Author.Tests.{tests}
use lib.Dec.{eqb}
use Rattle.std.proofs.lemmas.Iterator.{YieldsList-from_slice}
use Rattle.std.proofs.lemmas.Iterator.Search.{all_from_yields_List}
use Rattle.station_record.proofs.Every.{every-is-all}
use Rattle.station_record.proofs.record.pairs_unused.Goals as goal

pub returns : goal.returns
returns c =
    rw every-is-all (all_from_yields_List (λ x. eqb x 0) _ _ _ c.all.ensures.ran (YieldsList-from_slice c.args.numbers (search rules)) (λ x b q k. search (rules, tests)))
