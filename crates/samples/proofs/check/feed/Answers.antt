-- `samples::check::feed` meets its contract. Assumes nothing.
use Prim.Native.Nat.{ℕ}
use mathlib.Core.List.{List, ◌++◌}
use mathlib.Core.Path.{refl, sym, ap, ◌∙◌}
use native.Mathlib.Omega.{arith}
use mathlib.Core.Bool.{not}
use lib.ListN.{drop, drop_of_length-le}
use Rattle.sample_rows.specs.declared.reader.SampleReader.{SampleReader}
use Rattle.samples.specs.declared.check.Span.{Span}
use Rattle.sample_rows.specs.Streamed.{yet_to_come}
use Rattle.samples.specs.Streamed.{spanned, checked_with}
use Rattle.sample_rows.proofs.LineLaws.{no_row, kept_whole, at_end_of}
use Rattle.samples.proofs.CheckLaws.{found-counted}
use Rattle.samples.proofs.check.feed.Goals as goal

pub loop-at-init : goal.loop-at-init
loop-at-init c = (omega arith, λ rest. refl)

pub returns-then-is_none : goal.returns-then-is_none
unfolding checked_with yet_to_come
returns-then-is_none c =
    let s = c.args.chunk.now in
    let line = c.args.check.reader.line in
    let u = c.usual_rows_at-usual.ensures line in
    let n = c.next_row-row.ensures in
    let begun : SampleReader = record { line = line; len = c.next_row-row.result.len; stage = c.next_row-row.result.stage } in
    let none = c.is_none.ensures ∙ ap not c.if-is_none.true in
    λ rest. c.loop-at.invariant.1 rest
    ∙ u.rows rest
    ∙ ap (spanned c.usual_rows_at-usual.result.span) (rw (no_row _ none) at (n.rows rest) ∙ kept_whole s c.next_row-row.result.next begun c.kept.result rest (n.further none) c.kept.ensures ∙ at_end_of s c.kept.result rest)

pub loop-at-smaller : goal.loop-at-smaller
loop-at-smaller c =
    let n = c.next_row-row.ensures in
    omega (arith, n.onward (c.is_none.ensures ∙ ap not c.if-is_none.false), n.within, (c.usual_rows_at-usual.ensures c.args.check.reader.line).onward)

pub loop-at-preserved : goal.loop-at-preserved
unfolding yet_to_come
loop-at-preserved c =
    let line = c.args.check.reader.line in
    let span = c.usual_rows_at-usual.result.span in
    let n = c.next_row-row.ensures in
    let after : SampleReader = record { line = line; len = c.next_row-row.result.len; stage = c.next_row-row.result.stage } in
    let left : List ℕ → List ℕ = λ rest. drop c.next_row-row.result.next c.args.chunk.now ++ rest in (
      n.within,
      λ rest. c.loop-at.invariant.1 rest
          ∙ (c.usual_rows_at-usual.ensures line).rows rest
          ∙ ap (spanned span) (n.rows rest)
          ∙ found-counted span c.next_row-row.result.found (yet_to_come after (left rest))
          ∙ ap (λ (s : Span). spanned s (yet_to_come after (left rest))) (sym c.counted-span.ensures),
    )

pub returns : goal.returns
unfolding checked_with
returns c = λ rest. rw (drop_of_length-le _ c.loop-at-test.false) at (c.loop-at.invariant.1 rest)
