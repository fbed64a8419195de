-- `sample_rows::reader::next_row` meets its contract. Assumes nothing.
use mathlib.Core.Path.{sym, ◌∙◌}
use native.Mathlib.Omega.{arith}
use lib.ListN.{take, drop_of_length-le}
use Rattle.rules.specs.Bytes.{LF}
use Rattle.rules.proofs.Tests.{never}
use Rattle.sample_rows.specs.Streamed.{LineEnded}
use Rattle.sample_rows.proofs.LineLaws.{no_row, drop-least, none_left}
use Rattle.sample_rows.proofs.reader.next_row.Goals as goal
use Rattle.sample_rows.proofs.reader.next_row.Goals.{In-Some}

-- what the line gave that ended in this turn
line-ended : (c : In-Some) → LineEnded c.loop-next.latest (take c.loop-next.begun c.args.line.now) c.args.chunk.now c.loop-next.next c.in-Some.ended
line-ended c = rw c.in-Some.is at c.line_at.ensures

pub loop-next-init : goal.loop-next-init
loop-next-init c = (omega (arith, c.min-next.ensures), omega (arith, c.min-next.ensures), λ rest. rw (c.min-next.ensures, drop-least c.args.at c.args.chunk.now))

pub returns-in_default : goal.returns-in_default
returns-in_default c =
    let i = c.loop-next.invariant in
    let f = rw c.in_default.is at c.line_at.ensures in
    record { rows = i.2; within = i.0; ahead = i.1; onward = λ found. never found; further = λ none. f }

pub loop-next-smaller : goal.loop-next-smaller
loop-next-smaller c = let e = line-ended (goal.at.loop-next-smaller c).In-Some in omega (arith, e.onward, e.within)

pub loop-next-preserved : goal.loop-next-preserved
loop-next-preserved c =
    let i = c.loop-next.invariant in
    let e = line-ended (goal.at.loop-next-preserved c).In-Some in
    let none = no_row _ (sym c.is_some.ensures ∙ c.if-is_some.false) in
    (e.within, omega (arith, e.onward, i.1), λ rest. i.2 rest ∙ (rw none at (e.line rest)))

pub returns-then-is_some : goal.returns-then-is_some
returns-then-is_some c =
    let i = c.loop-next.invariant in
    let e = line-ended (goal.at.returns-then-is_some c).In-Some in
    record {
      rows = λ rest. i.2 rest ∙ e.line rest;
      within = e.within;
      ahead = omega (arith, e.onward, i.1);
      onward = λ found. omega (arith, e.onward, i.1);
      further = λ none. never (sym none ∙ sym c.is_some.ensures ∙ c.if-is_some.true);
    }

pub returns : goal.returns
returns c =
    let i = c.loop-next.invariant in
    let h = c.loop-next-test.false in
    record { rows = i.2; within = i.0; ahead = i.1; onward = λ found. never found; further = λ none. rw (drop_of_length-le _ h) (none_left LF) }
