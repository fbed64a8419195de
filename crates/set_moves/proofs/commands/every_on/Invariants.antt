-- `set_moves::commands::every_on` meets its contract. Assumes nothing.
use Rattle.std.proofs.Common.{◌≡◌, ℕ, Bool, true, not, ◌||◌, List}
use Rattle.rules.specs.declared.run.SetState.{SetState}
use Rattle.rules.specs.Numbers.{has, all_to}
use Rattle.rules.specs.Modes.{state_at, is_on}
use Rattle.words.specs.Masks.{next_set}
use Rattle.words.proofs.Walk.{Place, Standing}
use Rattle.set_moves.proofs.commands.every_on.Given as goal

-- the set at a place is not called, or is On
abbrev pub ready : List SetState → ℕ → ℕ → Bool
ready states mask i = not (has mask i) || is_on (state_at states i).mode

-- the walk is at a place, and every called set before it is On
pub record Asking (states : List SetState) (mask i : ℕ) : Type 0 where
  pub at : Place mask i
  pub told : all_to i (ready states mask) ≡ true

abbrev pub invariant-loop-place : goal.invariant-loop-place
invariant-loop-place l = record {
  stands : Standing l.mask l.place-iterator;
  asking : Asking l.states l.mask (next_set l.mask l.place-iterator.from);
}
