-- `steady::curve_table::tables_of` meets its contract. Assumes nothing.
use borrow.Author.Rules.{rules}
use native.Mathlib.Omega.{arith}
use Rattle.rules.specs.StationRecord.{past_end, set_at}
use Rattle.words.proofs.Walk.{Turned, standing-start, turn, walk_over}
use Rattle.steady.proofs.CurveFilled.{Tabling, tabling-start, tabling-more, tabled}
use Rattle.steady.proofs.curve_table.tables_of.Goals as goal
use Rattle.steady.proofs.curve_table.tables_of.Goals.{In-Some}

-- the place that the walk came to, and what was done before it
went : (c : In-Some) → Turned c.args.mask c.loop-place.place-iterator c.next.new.self c.in-Some.place
went c = turn c.args.mask c.next.new.self c.loop-place.invariant.stands c.in-Some.ensures.steps

so-far : (c : In-Some) → Tabling c.args.sets c.args.mask c.in-Some.place c.loop-place.sum c.loop-place.tables
so-far c = rw ((went c).here) c.loop-place.invariant.tabling

pub loop-place-init : goal.loop-place-init
loop-place-init c =
    rw (c.into_iter-place-iterator.ensures.into_iter_gives, c.places_of-place-items.ensures)
    (record { stands = standing-start c.args.mask; tabling = tabling-start _ _ _ (search rules) })

pub overflow_add-sum : goal.overflow_add-sum
overflow_add-sum c =
    let at = (goal.at.overflow_add-sum c).In-Some in
    record { fits = omega (arith, (so-far at).few, (went at).inside) }

pub loop-place-preserved : goal.loop-place-preserved
unfolding set_at past_end
loop-place-preserved c =
    let at = (goal.at.loop-place-preserved c).In-Some in
    rw (went at).on (record {
      stands = (went at).standing;
      tabling = tabling-more (so-far at) (went at).at (went at).inside (omega (arith, (so-far at).few)) _ c.lines_of-lines.ensures;
    })

pub returns : goal.returns
returns c = tabled c.loop-place.invariant.tabling (walk_over c.args.mask c.next.new.self c.loop-place.invariant.stands c.in-None.ensures.steps)
