-- `test_chunks::row_in_chunks` meets its contract. Assumes nothing.
use Prim.Native.Nat.{ℕ, ◌+◌, ◌≤◌, ◌<◌}
use mathlib.Core.List.{List}
use mathlib.Core.Path.{◌≡◌, sym, ap, ◌∙◌}
use native.Mathlib.Omega.{arith}
use lib.ListN.{length, drop_of_length-le}
use Rattle.sample_rows.specs.Streamed.{yet_to_come}
use Rattle.test_chunks.specs.declared.Sought.{Sought}
use Rattle.test_chunks.specs.Seeking.{sought_in}
use Rattle.test_chunks.proofs.ChunkedLaws.{end-ahead, places, row-pulled}
use Rattle.test_chunks.proofs.row_in_chunks.Goals as goal

pub loop-start-init : goal.loop-start-init
loop-start-init c =
    let a = c.args in
    (λ h. end-ahead _ _ _ h, ap (sought_in (Sought.After a.row)) (c.reader-reading.ensures a.file.now))

pub loop-start-smaller-then-next-end : goal.loop-start-smaller-then-next-end
loop-start-smaller-then-next-end c =
    let l = c.loop-start in
    let e = c.chunk_end-end in
    let inside : l.start + l.next < e.result = omega (arith, l.invariant.0 c.loop-start-test.true, e.ensures.2) in
    omega arith

pub loop-start-preserved-then-next-end : goal.loop-start-preserved-then-next-end
loop-start-preserved-then-next-end c =
    let a = c.args in
    let l = c.loop-start in
    let e = c.chunk_end-end in
    let inside : l.start + l.next < e.result = omega (arith, l.invariant.0 c.loop-start-test.true, e.ensures.2) in
    let p = c.pull-pulled in
    let on = row-pulled a.file.now l.start e.result e.ensures.0 e.ensures.1 l.next inside l.reading p.result p.ensures l.sought c.passed-sought.result c.passed-sought.ensures in
    let ended : l.start + p.result.next ≡ e.result + 0 = omega (arith, c.if-next-end.true, e.ensures.0) in
    (λ h. omega (arith, end-ahead (length a.file.now) e.result a.size h), rw ended at (sym on ∙ l.invariant.1))

pub loop-start-smaller : goal.loop-start-smaller
loop-start-smaller c =
    let a = c.args in
    let l = c.loop-start in
    let e = c.chunk_end-end in
    let inside : l.start + l.next < e.result = omega (arith, l.invariant.0 c.loop-start-test.true, e.ensures.2) in
    let p = c.pull-pulled in
    let at = places a.file.now l.start e.result e.ensures.0 e.ensures.1 l.next inside l.reading p.result p.ensures in
    omega (arith, at.0, at.1)

pub loop-start-preserved : goal.loop-start-preserved
loop-start-preserved c =
    let a = c.args in
    let l = c.loop-start in
    let e = c.chunk_end-end in
    let inside : l.start + l.next < e.result = omega (arith, l.invariant.0 c.loop-start-test.true, e.ensures.2) in
    let p = c.pull-pulled in
    let at = places a.file.now l.start e.result e.ensures.0 e.ensures.1 l.next inside l.reading p.result p.ensures in
    let on = row-pulled a.file.now l.start e.result e.ensures.0 e.ensures.1 l.next inside l.reading p.result p.ensures l.sought c.passed-sought.result c.passed-sought.ensures in
    (λ h. omega (arith, at.1, c.if-next-end.false, e.ensures.2), sym on ∙ l.invariant.1)

pub returns : goal.returns
returns c =
    let file = c.args.file.now in
    let l = c.loop-start in
    let h : length file ≤ l.start + l.next = omega (arith, c.loop-start-test.false) in
    c.row_at_end.ensures ∙ ap (λ (left : List ℕ). sought_in l.sought (yet_to_come l.reading left)) (sym (drop_of_length-le file h)) ∙ l.invariant.1
