-- `steady::curve_table::line_or_none` meets its contract. Assumes nothing.
use Prim.Native.Nat.{suc}
use native.Mathlib.Omega.{arith}
use borrow.Author.Tests.{lt-ltb, le-ltb}
use Rattle.gensets.proofs.LineSmall.{line_at}
use Rattle.steady.specs.CurveTable.{line_or_none}
use Rattle.steady.proofs.curve_table.line_or_none.Goals as goal

pub returns-then-j-genset : goal.returns-then-j-genset
unfolding line_or_none
returns-then-j-genset c = rw (c.line_of.ensures, line_at c.args.genset c.args.j c.requires, lt-ltb (suc c.args.j) c.args.genset.points (omega arith))

pub returns-else-j-genset : goal.returns-else-j-genset
unfolding line_or_none
returns-else-j-genset c = rw (le-ltb (suc c.args.j) c.args.genset.points (omega arith))
