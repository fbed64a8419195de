-- `station_record::values::rises_at` meets its contract. Assumes nothing.
use Prim.Native.Nat.{suc}
use native.Mathlib.Omega.{arith}
use borrow.Author.Tests.{lt-ltb, le-ltb}
use Rattle.station_record.proofs.values.rises_at.Goals as goal

pub returns-then-place-points : goal.returns-then-place-points
returns-then-place-points c = rw (lt-ltb (suc c.args.place) c.args.points (omega (arith, c.if-place-points.true)))

pub returns : goal.returns
returns c = rw (le-ltb (suc c.args.place) c.args.points (omega (arith, c.if-place-points.false)))
