-- `set_moves::commands::every_on` meets its contract. Assumes nothing.
use Rattle.std.proofs.Common.{◌≡◌, ℕ, suc, ◌+◌, ◌<◌, ◌≤◌, Bool, true, false, List, sym, refl, ◌∙◌, zero-le, add-one, arith}
use Rattle.rules.specs.declared.run.SetState.{SetState}
use Rattle.rules.specs.Numbers.{has, all_to}
use Rattle.rules.specs.Modes.{state_at, is_on}
use Rattle.rules.specs.Commands.{every_on}
use Rattle.rules.proofs.Tests.{never, and-true, to_at}
use Rattle.words.specs.Masks.{next_set}
use Rattle.words.proofs.Walk.{place, standing-start, turn, walk_over}
use Rattle.set_moves.proofs.PassedBy.{to-next}
use Rattle.set_moves.proofs.commands.every_on.Invariants.{Asking, ready}
use Rattle.set_moves.proofs.commands.every_on.Goals as goal

-- a set that is not called decides nothing
passed-by : (states : List SetState) (mask i : ℕ) → i < 8 → has mask i ≡ false → all_to i (ready states mask) ≡ true → all_to (suc i) (ready states mask) ≡ true
unfolding all_to
passed-by states mask i l none told = and-true told (rw none)

module _ {states : List SetState} {mask : ℕ} where
  up-to-next : (i : ℕ) → i ≤ 8 → all_to i (ready states mask) ≡ true → Asking states mask (next_set mask i)
  up-to-next i l told = record { at = place mask i l; told = to-next mask (λ k. all_to k (ready states mask) ≡ true) (passed-by states mask) i l told }

  asking-start : Asking states mask (next_set mask 0)
  unfolding all_to
  asking-start = up-to-next 0 zero-le refl

  module _ {i : ℕ} (now : Asking states mask i) where
    asking-more : i < 8 → is_on (state_at states i).mode ≡ true → Asking states mask (next_set mask (i + 1))
    unfolding all_to
    asking-more l on = up-to-next (i + 1) (omega arith) (rw (add-one i) (and-true now.told (rw (now.at.here l) on)))

    one-is-not : i < 8 → is_on (state_at states i).mode ≡ false → false ≡ every_on states mask
    unfolding every_on
    one-is-not l off = go (all_to 8 (ready states mask)) refl
      where
        here : ready states mask i ≡ false
        here = rw (now.at.here l) off

        go : (b : Bool) → all_to 8 (ready states mask) ≡ b → false ≡ b
        go true e = never (sym here ∙ to_at (ready states mask) 8 e i l)
        go false e = refl

    all_are : 8 ≤ i → true ≡ every_on states mask
    unfolding every_on
    all_are l = let e : i ≡ 8 = omega (arith, now.at.range) in sym (rw e at now.told)

pub loop-place-init : goal.loop-place-init
loop-place-init c =
    rw (c.into_iter-place-iterator.ensures.into_iter_gives, c.places_of-place-items.ensures) (record { stands = standing-start c.args.mask; asking = asking-start })

pub returns-then-not-is_on : goal.returns-then-not-is_on
unfolding state_at
returns-then-not-is_on c =
    let i = c.loop-place.invariant in
    let t = turn c.args.mask c.next.new.self i.stands c.in-Some.ensures.steps in
    one-is-not (rw (← t.here) at i.asking) t.inside (sym c.is_on.ensures ∙ c.if-not-is_on.true)

pub loop-place-preserved : goal.loop-place-preserved
unfolding state_at
loop-place-preserved c =
    let i = c.loop-place.invariant in
    let t = turn c.args.mask c.next.new.self i.stands c.in-Some.ensures.steps in
    rw t.on (record { stands = t.standing; asking = asking-more (rw (← t.here) at i.asking) t.inside (sym c.is_on.ensures ∙ c.if-not-is_on.false) })

pub returns : goal.returns
returns c =
    let i = c.loop-place.invariant in
    all_are i.asking (walk_over c.args.mask c.next.new.self i.stands c.in-None.ensures.steps)
