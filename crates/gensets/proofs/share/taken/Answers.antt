-- `gensets::share::taken` meets its contract. Assumes nothing.
use native.Mathlib.Omega.{arith}
use Rattle.rules.specs.StationRecord.{past_end, set_at}
use Rattle.words.proofs.Walk.{Turned, standing-start, turn, walk_over}
use Rattle.gensets.proofs.SharesWalk.{Shared, started, ended, within-capacity, given-rises, takes-rating, turned}
use Rattle.gensets.proofs.share.taken.Goals as goal
use Rattle.gensets.proofs.share.taken.Goals.{In-Some}

-- the place that the walk came to, and what was done before it
went : (c : In-Some) → Turned c.args.mask c.loop-place.place-iterator c.next.new.self c.in-Some.place
went c = turn c.args.mask c.next.new.self c.loop-place.invariant.stands c.in-Some.ensures.steps

so-far : (c : In-Some) → Shared c.args.sets c.args.mask c.args.diesel c.args.cap c.loop-place.out c.loop-place.sum c.loop-place.given c.in-Some.place
so-far c = rw ((went c).here) c.loop-place.invariant.shared

pub loop-place-init : goal.loop-place-init
loop-place-init c =
    rw (c.into_iter-place-iterator.ensures.into_iter_gives, c.places_of-place-items.ensures) (record { stands = standing-start c.args.mask; shared = started c.requires })

pub overflow_add-sum : goal.overflow_add-sum
unfolding set_at past_end
overflow_add-sum c =
    let at = (goal.at.overflow_add-sum c).In-Some in
    record { fits = omega (arith, c.requires.small, within-capacity c.requires (so-far at) (went at).inside) }

pub overflow_sub-out : goal.overflow_sub-out
unfolding set_at past_end
overflow_sub-out c =
    let at = (goal.at.overflow_sub-out c).In-Some in
    rw c.upto-together.ensures (given-rises c.requires (so-far at) (went at).inside)

pub overflow_cast-out : goal.overflow_cast-out
unfolding set_at past_end
overflow_cast-out c =
    let at = (goal.at.overflow_cast-out c).In-Some in
    record { fits = rw c.upto-together.ensures (omega (arith, takes-rating c.requires (so-far at) (went at).inside)) }

pub loop-place-preserved : goal.loop-place-preserved
unfolding set_at past_end
loop-place-preserved c =
    let at = (goal.at.loop-place-preserved c).In-Some in
    rw ((went at).on, c.upto-together.ensures) (record { stands = (went at).standing; shared = turned c.requires (so-far at) (went at).inside })

pub returns : goal.returns
returns c = ended c.requires c.loop-place.invariant.shared (walk_over c.args.mask c.next.new.self c.loop-place.invariant.stands c.in-None.ensures.steps)
