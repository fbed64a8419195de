-- `sample_rows::reader::any_line` meets its contract. Assumes nothing.
use Prim.Native.Nat.{◌≤◌, ◌<◌}
use native.Mathlib.Omega.{arith}
use lib.ListN.{length, take}
use Rattle.sample_rows.proofs.LineLaws.{take_rest, no-further, one_line}
use Rattle.sample_rows.proofs.reader.any_line.Goals as goal

pub returns-then-chunk-end : goal.returns-then-chunk-end
returns-then-chunk-end c =
    let s = c.args.chunk.now in
    let h : length s ≤ c.find-end.result = c.if-chunk-end.true in
    rw (take_rest s c.args.at) at (no-further s c.args.at c.find-end.result c.find-end.ensures.first h)

pub returns : goal.returns
returns c =
    let s = c.args.chunk.now in
    let h : c.find-end.result < length s = c.if-chunk-end.false in
    let b = take c.args.len c.args.line.now in
    record {
      line = λ rest. one_line s c.args.at c.find-end.result c.find-end.ensures.first c.args.stage c.joined_line.result.stage c.joined_line.result.found b rest h c.joined_line.ensures;
      onward = omega arith;
      within = omega arith;
    }
