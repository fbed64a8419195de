-- `turn` meets its contract. Assumes nothing.
use mathlib.Core.Path.{refl}
use Rattle.simulation.proofs.PhaseTurns.{first-turn, last-turn}
use Rattle.simulation.proofs.turn.turn.Goals as goal

pub returns-in-Refusal : goal.returns-in-Refusal
returns-in-Refusal c = first-turn c.args.t c.args.chunk.now c.args.ended c.args.out.now c.requires.0 c.requires.1 c.in-Refusal.is _ _ c.line_turn.ensures

pub returns-in-SetHeading : goal.returns-in-SetHeading
returns-in-SetHeading c = c.set_heading_turn.ensures c.args.chunk.now refl c.requires.0

pub returns-in-SetLine : goal.returns-in-SetLine
returns-in-SetLine c = c.set_turn.ensures c.args.chunk.now c.args.ended c.requires.0

pub returns-in-Over : goal.returns-in-Over
returns-in-Over c = last-turn c.args.t c.args.chunk.now c.args.ended c.args.out.now c.requires.0 c.requires.1 c.in-Over.is
