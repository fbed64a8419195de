-- `test_chunks::chunk_end` meets its contract. Assumes nothing.
use native.Mathlib.Omega.{arith}
use borrow.Author.Rules.{rules}
use Rattle.test_chunks.proofs.ChunkedLaws.{one_byte, full-chunk, last-chunk}
use Rattle.test_chunks.proofs.chunk_end.Goals as goal

pub returns-then-size-eq0 : goal.returns-then-size-eq0
returns-then-size-eq0 c =
    let a = c.args in
    (omega arith, omega arith, one_byte _ _ a.size (search rules) c.if-size-eq0.true)

pub returns-then-size-left : goal.returns-then-size-left
returns-then-size-left c =
    let a = c.args in
    (omega arith, omega arith, full-chunk _ _ a.size (search rules) c.if-size-eq0.false c.if-size-left.true)

pub returns : goal.returns
returns c =
    let a = c.args in
    (omega arith, omega arith, last-chunk _ _ a.size (search rules) c.if-size-eq0.false c.if-size-left.false)
