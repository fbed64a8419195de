-- `station_record::values::service_right` meets its contract. Assumes nothing.
use lib.Dec.{leb-zero}
use borrow.Author.Tests.{ne_eqb}
use Rattle.station_record.proofs.Ranges.{zero-within}
use Rattle.station_record.proofs.values.service_right.Goals as goal

pub returns-then-interval-eq0 : goal.returns-then-interval-eq0
returns-then-interval-eq0 c = rw (c.if-interval-eq0.true, c.within-in_range.ensures) (zero-within 2_592_000 c.args.service)

pub returns : goal.returns
returns c = rw (ne_eqb c.args.interval 0 c.if-interval-eq0.false, c.within-in_range.ensures, leb-zero c.args.service)
