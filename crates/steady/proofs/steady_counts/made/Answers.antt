-- `steady::steady_counts::made` meets its contract. Assumes nothing.
use borrow.Author.Rules.{rules}
use Prim.Native.Nat.{ℕ}
use mathlib.Core.Path.{◌≡◌, sym, ◌∙◌}
use mathlib.Core.Bool.{true, false}
use mathlib.Core.List.{List}
use native.Mathlib.Omega.{arith}
use Rattle.rules.specs.declared.run.Mode.TheVariants.{Off}
use Rattle.rules.specs.declared.run.SetState.{SetState}
use Rattle.rules.specs.Numbers.{has}
use Rattle.rules.specs.Modes.{fresh, state_at}
use Rattle.modes.proofs.Filled.{filling-start, filling-at, filling-more, filling-whole}
use Rattle.steady.specs.declared.steady_counts.Added.{Added}
use Rattle.steady.specs.NextEvent.{waited}
use Rattle.steady.specs.Steady.{added_to, ran_for, steady_at, since_steady}
use Rattle.steady.proofs.steady_counts.made.Goals as goal
use Rattle.steady.proofs.steady_counts.made.Goals.{then-has_set, else-has_set}

-- a set that the mask has, and one that it has not
has-run : (base : List SetState) (on seconds : ℕ) (added : List Added) (i : ℕ) → has on i ≡ true → steady_at base on seconds added i ≡ ran_for (state_at base i) seconds (added_to added i)
unfolding steady_at
has-run base on seconds added i e = rw e

has-not : (base : List SetState) (on seconds : ℕ) (added : List Added) (i : ℕ) → has on i ≡ false → steady_at base on seconds added i ≡ waited (state_at base i) seconds
unfolding steady_at
has-not base on seconds added i e = rw e

pub loop-i-init : goal.loop-i-init
loop-i-init c = (c.requires, filling-start _ _ 8 (search rules))

pub ran_for-requires : goal.ran_for-requires
unfolding state_at
ran_for-requires c =
    let on = sym c.has_set.ensures ∙ c.if-has_set.true in
    let own = filling-at _ _ 8 c.loop-i.i _ c.loop-i.invariant.1 (fresh Off) in
    rw (own, ← has-run _ _ _ _ c.loop-i.i on) (c.loop-i.invariant.0.small c.loop-i.i (search rules))

pub loop-i-preserved : goal.loop-i-preserved
unfolding state_at
loop-i-preserved c =
    let own = filling-at _ _ 8 c.loop-i.i _ c.loop-i.invariant.1 (fresh Off) in (
      c.loop-i.invariant.0,
      elim c.if-has_set.branch [
        | then-has_set w ↦
            rw w.out-is (filling-more _ _ 8 c.loop-i.i _ c.loop-i.invariant.1 c.loop-i-test.true _ (w.ran_for.ensures ∙ rw (own, has-run _ _ _ _ c.loop-i.i (sym c.has_set.ensures ∙ w.if-has_set.true))))
        | else-has_set w ↦
            rw w.out-is (filling-more _ _ 8 c.loop-i.i _ c.loop-i.invariant.1 c.loop-i-test.true _ (w.waited.ensures ∙ rw (own, has-not _ _ _ _ c.loop-i.i (sym c.has_set.ensures ∙ w.if-has_set.false))))
      ],
    )

pub returns : goal.returns
unfolding since_steady
returns c = filling-whole _ _ 8 c.loop-i.i _ c.loop-i.invariant.1 (omega arith)
