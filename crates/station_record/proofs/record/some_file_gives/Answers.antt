-- `station_record::record::some_file_gives` meets its contract. Assumes nothing.
use mathlib.Core.Path.{sym, ◌∙◌}
use Rattle.station_record.proofs.Orders.{counts-first, values-next, unused-last}
use Rattle.station_record.proofs.record.some_file_gives.Goals as goal

pub returns-then-not-setcount-configcount : goal.returns-then-not-setcount-configcount
returns-then-not-setcount-configcount c = counts-first c.args.st c.if-not-setcount-configcount.true

pub returns-then-is_err : goal.returns-then-is_err
returns-then-is_err c =
    values-next c.args.st c.if-not-setcount-configcount.false _ c.values_right.ensures (sym c.is_err.ensures.value ∙ c.if-is_err.true)

pub returns : goal.returns
returns c =
    unused-last c.args.st c.if-not-setcount-configcount.false _ c.values_right.ensures (sym c.is_err.ensures.value ∙ c.if-is_err.false) _ _ c.sets_unused.ensures c.configurations_unused.ensures
