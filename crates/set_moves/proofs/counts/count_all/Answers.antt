-- `set_moves::counts::count_all` meets its contract. Assumes nothing.
use Rattle.std.proofs.Common.{◌≡◌, ℕ, suc, ◌+◌, ◌<◌, ◌≤◌, false, List, get_or, set, ap, ◌∙◌, zero-le, add-one, arith, rules}
use lib.Seq.{set-get_or}
use Rattle.rules.specs.declared.run.Mode.TheVariants.{Off}
use Rattle.rules.specs.declared.run.SetState.{SetState}
use Rattle.rules.specs.declared.station.GenSet.{GenSet}
use Rattle.rules.specs.Numbers.{has}
use Rattle.rules.specs.StationRecord.{past_end, set_at}
use Rattle.rules.specs.Modes.{fresh, state_at}
use Rattle.words.specs.Masks.{next_set}
use Rattle.words.proofs.Walk.{Place, standing-start, turn, walk_over}
use Rattle.gensets.specs.Leaves.{shares_told, watts_of}
use Rattle.modes.proofs.Filled.{filling-start, filling-at, filling-more, filling-whole}
use Rattle.set_moves.specs.InType.{counted_in, counted_at, counted_all_in}
use Rattle.set_moves.proofs.PassedBy.{to-next}
use Rattle.set_moves.proofs.counts.count_all.Invariants.{Counting}
use Rattle.set_moves.proofs.counts.count_all.Goals as goal

module _ (sets : List GenSet) (states : List SetState) (mask diesel : ℕ) where
  -- a set that the mask has not counts nothing
  passed-by : (out : List SetState) (i : ℕ) → i < 8 → has mask i ≡ false → Counting sets states mask diesel i out → Counting sets states mask diesel (suc i) out
  unfolding counted_at state_at
  passed-by out i l none now =
      let own : get_or out i (fresh Off) ≡ get_or states i (fresh Off) = filling-at _ _ 8 i out now (fresh Off) in
      rw (set-get_or, add-one i) at (filling-more _ _ 8 i out now l (get_or out i (fresh Off)) (rw (none, own)))

  up-to-next : (out : List SetState) (i : ℕ) → i ≤ 8 → Counting sets states mask diesel i out → Counting sets states mask diesel (next_set mask i) out
  up-to-next out i l now = to-next mask (λ k. Counting sets states mask diesel k out) (passed-by out) i l now

  counted-more : (out : List SetState) (i : ℕ) → Place mask i → i < 8 → Counting sets states mask diesel i out → (after : SetState)
      → after ≡ counted_in (set_at sets i) (state_at out i) (get_or (watts_of (shares_told sets mask diesel)) i 0) → Counting sets states mask diesel (next_set mask (i + 1)) (set out i after)
  unfolding counted_at state_at
  counted-more out i at l now after e =
      let own : get_or out i (fresh Off) ≡ get_or states i (fresh Off) = filling-at _ _ 8 i out now (fresh Off) in
      up-to-next (set out i after) (i + 1) (omega arith) (filling-more _ _ 8 i out now l after (e ∙ rw (at.here l, own)))

pub loop-place-init : goal.loop-place-init
loop-place-init c =
    let a = c.args in
    rw (c.into_iter-place-iterator.ensures.into_iter_gives, c.places_of-place-items.ensures) (record {
      shared = c.watts_of-watts.ensures ∙ ap watts_of c.shares.ensures;
      stands = standing-start a.mask;
      counts = up-to-next a.sets a.states a.mask a.diesel a.states 0 zero-le (filling-start _ _ 8 (search rules));
    })

pub loop-place-preserved : goal.loop-place-preserved
unfolding set_at state_at past_end
loop-place-preserved c =
    let a = c.args in
    let i = c.loop-place.invariant in
    let t = turn a.mask c.next.new.self i.stands c.in-Some.ensures.steps in
    let before = rw (← t.here) at i.counts in
    rw t.on (record {
      shared = i.shared;
      stands = t.standing;
      counts = counted-more a.sets a.states a.mask a.diesel c.loop-place.out c.in-Some.place t.at t.inside before _ (c.count.ensures ∙ rw i.shared);
    })

pub returns : goal.returns
unfolding counted_all_in
returns c =
    let i = c.loop-place.invariant in
    filling-whole _ _ 8 _ _ i.counts (walk_over c.args.mask c.next.new.self i.stands c.in-None.ensures.steps)
