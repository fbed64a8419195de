-- `station_record::values::pair_right` meets its contract. Assumes nothing.
use lib.Dec.{leb-zero}
use borrow.Author.Tests.{lt-ltb, le-ltb}
use Rattle.station_record.proofs.values.pair_right.Goals as goal

pub returns-then-place-points : goal.returns-then-place-points
returns-then-place-points c =
    let a = c.args in
    rw (lt-ltb a.place a.points c.if-place-points.true, c.within.ensures, c.within-then-place-points.ensures, leb-zero a.load, leb-zero a.rate)

pub returns : goal.returns
returns c = rw (le-ltb c.args.place c.args.points c.if-place-points.false)
