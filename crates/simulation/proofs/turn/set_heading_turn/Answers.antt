-- `set_heading_turn` meets its contract. Assumes nothing.
use Rattle.simulation.proofs.PhaseTurns.{set-heading-turn, passing-turn}
use Rattle.simulation.proofs.turn.set_heading_turn.Goals as goal

pub returns-then-ended : goal.returns-then-ended
returns-then-ended c =
    λ chunk e at_in. set-heading-turn c.args.t chunk c.args.ended c.args.out.now at_in c.requires.1 c.requires.0 c.if-ended.true _ _ c.line_turn.ensures

pub returns : goal.returns
returns c =
    λ chunk e at_in. rw e (passing-turn c.args.t chunk c.args.ended c.args.out.now at_in c.requires.1 c.requires.0 c.if-ended.false)
