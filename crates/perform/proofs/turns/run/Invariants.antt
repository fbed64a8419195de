-- The turns so far, from the state at which the program began, of which each performed one action. Assumes nothing.
use mathlib.Core.Path.{◌≡◌}
use Rattle.perform.specs.Turns.{Turns}
use Rattle.perform.proofs.turns.run.Given as goal

abbrev pub invariant-loop-turn : goal.invariant-loop-turn
invariant-loop-turn g l = (l.files.performed ≡ l.turn) × (g.P.Decisions.opens l.initial.state × Turns g.P.Decisions.asks g.P.Decisions.steps l.turn l.initial.state l.fn.buf l.fn.out l.state l.buf l.out)
