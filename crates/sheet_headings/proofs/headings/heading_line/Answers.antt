-- `sheet_headings::headings::heading_line` meets its contract: what the headings past each one come to decides. Assumes nothing.
use Rattle.std.proofs.lemmas.Result.{err_from_is_err_and}
use mathlib.Core.Path.{sym, ◌∙◌}
use native.Mathlib.Omega.{arith}
use native.Mathlib.Nat.{zero-add}
use Rattle.sheet_headings.proofs.ColumnsRead.{none_right}
use Rattle.sheet_headings.proofs.HeadingLineLaws.{heading-within, too_long, not-time, after-time, refused-there, found-there, missing-there, complete-there}
use Rattle.sheet_headings.proofs.headings.heading_line.Goals as goal

pub returns-then-size-gt-MOST_LINE : goal.returns-then-size-gt-MOST_LINE
returns-then-size-gt-MOST_LINE c = too_long _ _ c.if-size-gt-MOST_LINE.true

pub returns-then-name_of-gt0 : goal.returns-then-name_of-gt0
returns-then-name_of-gt0 c = not-time _ _ c.if-size-gt-MOST_LINE.false _ c.cell_at-first.ensures.result_value _ c.name_of.ensures c.if-name_of-gt0.true

pub loop-end-init : goal.loop-end-init
loop-end-init c =
    let first = c.cell_at-first.ensures.result_value in
    (simp zero-add at (heading-within _ 0 _ first (omega arith)), none_right, after-time _ _ c.if-size-gt-MOST_LINE.false _ first _ c.name_of.ensures c.if-name_of-gt0.false)

pub returns-in_err-read : goal.returns-in_err-read
returns-in_err-read c =
    let turn = c.loop-end in
    let p = err_from_is_err_and c.from_residual.result c.from_residual.ensures.1 in
    rw (p.1, p.2) (refused-there _ _ turn.invariant.1 _ c.loop-end-test.true _ c.cell_at-heading.ensures.result_value _ c.with_heading.ensures _ c.in_err-read.was ∙ sym turn.invariant.2)

pub overflow_add-end-in-loop-end-2 : goal.overflow_add-end-in-loop-end-2
overflow_add-end-in-loop-end-2 c = omega (arith, heading-within _ _ _ c.cell_at-heading.ensures.result_value (omega arith))

pub loop-end-preserved : goal.loop-end-preserved
loop-end-preserved c =
    let heading = c.before.before in
    let turn = heading.loop-end in
    let starts = heading.cell_at-heading.ensures.result_value in
    let found = found-there _ _ turn.invariant.1 _ heading.loop-end-test.true _ starts _ c.with_heading.ensures _ c.in_ok-read.was in
    (heading-within _ _ _ starts (omega arith), found.0, turn.invariant.2 ∙ found.1)

pub returns-then-read-eq0 : goal.returns-then-read-eq0
returns-then-read-eq0 c =
    let ended = c.before.before in
    let turn = ended.loop-end in
    missing-there ended.args.text.now _ turn.invariant.1 _ ended.loop-end-test.false c.if-read-eq0.true ∙ sym turn.invariant.2

pub returns : goal.returns
returns c =
    let ended = c.before.before in
    let turn = ended.loop-end in
    complete-there ended.args.text.now _ turn.invariant.1 _ ended.loop-end-test.false c.if-read-eq0.false ∙ sym turn.invariant.2
