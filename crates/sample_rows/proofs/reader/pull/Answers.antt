-- `sample_rows::reader::pull` meets its contract. Assumes nothing.
use mathlib.Core.Path.{refl, sym, ◌∙◌}
use native.Mathlib.Omega.{arith}
use Rattle.rules.proofs.Tests.{never}
use Rattle.sample_rows.specs.Streamed.{yet_to_come}
use Rattle.sample_rows.proofs.LineLaws.{no_row, kept_whole}
use Rattle.sample_rows.proofs.reader.pull.Goals as goal

pub returns-then-is_some : goal.returns-then-is_some
unfolding yet_to_come
returns-then-is_some c =
    let n = c.next_row-row.ensures in
    record { rows = n.rows; within = n.within; onward = n.onward; exhausted = λ none. never (sym none ∙ sym c.is_some.ensures ∙ c.if-is_some.true) }

pub returns : goal.returns
unfolding yet_to_come
returns c =
    let n = c.next_row-row.ensures in
    let s = c.args.chunk.now in
    let next = c.next_row-row.result.next in
    let none = sym c.is_some.ensures ∙ c.if-is_some.false in
    record {
      rows = λ rest. (rw (no_row _ none) at (n.rows rest)) ∙ kept_whole s next (record { line = c.args.reader.line; len = c.next_row-row.result.len; stage = c.next_row-row.result.stage }) c.kept.result rest (n.further none) c.kept.ensures;
      within = omega arith;
      onward = λ found. never found;
      exhausted = λ none. refl;
    }
