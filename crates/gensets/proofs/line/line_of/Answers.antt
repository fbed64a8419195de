-- `line::line_of` meets its contract: the numbers of both points, as they stand. Assumes nothing.
use native.Mathlib.Numerals.{add-one}
use borrow.Author.Tests.{lt-ltb, le-ltb}
use Rattle.gensets.specs.Lines.{line_of}
use Rattle.gensets.proofs.line.line_of.Goals as goal

pub returns-then-j-ge4 : goal.returns-then-j-ge4
unfolding line_of
returns-then-j-ge4 c = rw (le-ltb _ 4 c.if-j-ge4.true)

pub returns : goal.returns
unfolding line_of
returns c =
    let s = c.before.before.before.before.before in
    rw (lt-ltb _ 4 s.if-j-ge4.false, c.product-2.ensures, c.saturating_sub.ensures, c.product.ensures, add-one)
