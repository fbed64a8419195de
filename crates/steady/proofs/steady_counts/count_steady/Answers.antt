-- `steady::steady_counts::count_steady` meets its contract. Assumes nothing.
use borrow.Author.Rules.{rules}
use mathlib.Core.List.{[]}
use native.Mathlib.Omega.{arith}
use Rattle.words.proofs.Walk.{Turned, standing-start, turn, walk_over}
use Rattle.modes.proofs.Filled.{filling-whole}
use Rattle.steady.specs.Steady.{added_after}
use Rattle.steady.proofs.Adding.{Adding, adding-start, adding-more, sum-small, given-rises, takes-rating, rating-small, energy-small, fuel-small, rate-is}
use Rattle.steady.proofs.steady_counts.count_steady.Goals as goal
use Rattle.steady.proofs.steady_counts.count_steady.Goals.{In-Some}

-- the place that the walk came to, and what was done before it
went : (c : In-Some) → Turned c.args.mask c.loop-place.place-iterator c.next.new.self c.in-Some.place
went c = turn c.args.mask c.next.new.self c.loop-place.invariant.stands c.in-Some.ensures.steps

so-far : (c : In-Some) → Adding c.args.sets c.args.mask c.args.diesel c.args.cap c.args.added.now c.in-Some.place c.loop-place.given c.loop-place.added
so-far c = rw ((went c).here) c.loop-place.invariant.adding

pub loop-place-init : goal.loop-place-init
loop-place-init c =
    rw (c.into_iter-place-iterator.ensures.into_iter_gives, c.places_of-place-items.ensures)
    (record { stands = standing-start c.args.mask; adding = adding-start c.requires.0 (search rules) })

pub overflow_cast-tables : goal.overflow_cast-tables
overflow_cast-tables c =
    let at = (goal.at.overflow_cast-tables c).In-Some in
    record { fits = omega (arith, sum-small c.requires.0 (so-far at) (went at).at (went at).inside c.requires.1 (record { sum = 0; lines = [] })) }

pub overflow_sub-power : goal.overflow_sub-power
overflow_sub-power c =
    let at = (goal.at.overflow_sub-power c).In-Some in
    given-rises c.requires.0 (so-far at) (went at).at (went at).inside c.requires.1 _ c.upto-together.ensures

pub burned_on-burns-requires : goal.burned_on-burns-requires
burned_on-burns-requires c =
    let at = (goal.at.burned_on-burns-requires c).In-Some in
    omega (arith, takes-rating c.requires.0 (so-far at) (went at).at (went at).inside c.requires.1 _ c.upto-together.ensures, rating-small c.requires.0 (so-far at) (went at).at (went at).inside)

pub overflow_add-added : goal.overflow_add-added
overflow_add-added c =
    let at = (goal.at.overflow_add-added c).In-Some in
    omega (arith, takes-rating c.requires.0 (so-far at) (went at).at (went at).inside c.requires.1 _ c.upto-together.ensures, rating-small c.requires.0 (so-far at) (went at).at (went at).inside, energy-small c.requires.0 (so-far at) (went at).at (went at).inside)

pub overflow_add-added-in-loop-place : goal.overflow_add-added-in-loop-place
overflow_add-added-in-loop-place c =
    let at = (goal.at.overflow_add-added-in-loop-place c).In-Some in
    omega (arith, (rate-is c.requires.0 (so-far at) (went at).at (went at).inside c.requires.1 _ c.upto-together.ensures c.burned_on-burns.ensures).1, fuel-small c.requires.0 (so-far at) (went at).at (went at).inside)

pub loop-place-preserved : goal.loop-place-preserved
loop-place-preserved c =
    let at = (goal.at.loop-place-preserved c).In-Some in
    rw (went at).on (record {
      stands = (went at).standing;
      adding = adding-more c.requires.0 (so-far at) (went at).at (went at).inside c.requires.1 _ c.upto-together.ensures c.burned_on-burns.ensures;
    })

pub returns : goal.returns
unfolding added_after
returns c =
    filling-whole _ _ 8 _ _ c.loop-place.invariant.adding.filled (walk_over c.args.mask c.next.new.self c.loop-place.invariant.stands c.in-None.ensures.steps)
