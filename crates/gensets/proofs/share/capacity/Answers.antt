-- `gensets::share::capacity` meets its contract: the sum is that of the sets before the place the walk is at, and small, since no
-- rating exceeds 32 bits. Assumes nothing.
use Prim.Native.Nat.{ℕ, ◌+◌, zero-le}
use mathlib.Core.Path.{sym, ap, ◌∙◌}
use native.Mathlib.Omega.{arith}
use Rattle.rules.specs.Share.{running_total, capacity}
use Rattle.rules.specs.StationRecord.{past_end, set_at}
use Rattle.words.proofs.Walk.{place, next-from, standing-start, turn, walk_over}
use Rattle.words.proofs.Weighed.{walk_start, walk_turn, walk_end}
use Rattle.gensets.proofs.SharesWalk.{rating_of}
use Rattle.gensets.proofs.share.capacity.Goals as goal

pub loop-place-init : goal.loop-place-init
unfolding running_total
loop-place-init c =
    let s = c.args in
    rw (c.into_iter-place-iterator.ensures.into_iter_gives, c.places_of-place-items.ensures) (record {
      stands = standing-start s.mask;
      summed = sym (walk_start (rating_of s.sets) s.mask);
      small = zero-le;
    })

pub overflow_add-sum : goal.overflow_add-sum
overflow_add-sum c = let t = turn c.args.mask c.next.new.self c.loop-place.invariant.stands c.in-Some.ensures.steps in record { fits = omega (arith, rw (← t.here) at c.loop-place.invariant.small, t.inside) }

pub loop-place-preserved : goal.loop-place-preserved
unfolding running_total set_at past_end
loop-place-preserved c =
    let s = c.args in
    let i = c.loop-place.invariant in
    let t = turn s.mask c.next.new.self i.stands c.in-Some.ensures.steps in
    rw t.on (record {
      stands = t.standing;
      summed = ap (λ (x : ℕ). x + rating_of s.sets c.in-Some.place) (rw (← t.here) at i.summed) ∙ sym (walk_turn (rating_of s.sets) s.mask c.in-Some.place t.at t.inside);
      small = omega (arith, rw (← t.here) at i.small, next-from s.mask (c.in-Some.place + 1));
    })

pub returns : goal.returns
unfolding running_total capacity
returns c =
    let s = c.args in
    let i = c.loop-place.invariant in
    let over = walk_over s.mask c.next.new.self i.stands c.in-None.ensures.steps in
    let last = place s.mask c.loop-place.place-iterator.from i.stands.range in
    record { value = i.summed ∙ walk_end (rating_of s.sets) s.mask _ last over; upper_bound = omega (arith, i.small, last.range) }
