-- `set_turn` meets its contract: the existing sets' lines, and then the end. Assumes nothing.
use native.Mathlib.Omega.{arith}
use Rattle.simulation.proofs.PhaseTurns.{set-line-turn, sets-over-turn, few-sets}
use mathlib.Core.Path.{◌≡◌}
use lib.ListN.{length}
use Rattle.simulation.proofs.turn.set_turn.Goals as goal
use Rattle.simulation.proofs.turn.set_turn.Goals.{Start}

-- the record's sets are eight
eight : (c : Start) → length c.args.t.simulation.course.run.sets ≡ 8
eight c = c.well_formed.0.1.1.0.1.1.1.0.1.1.1.0.1.1.1.1.1.1.1.0.1.0.1

pub returns-then-place-min : goal.returns-then-place-min
returns-then-place-min c =
    let few = c.min.ensures in
    let count = c.set_count.ensures in
    let test = c.if-place-min.true in
    λ chunk ended at_in. set-line-turn c.args.t chunk ended c.args.out.now at_in c.requires.1 c.args.place c.requires.0 (eight (goal.at.returns-then-place-min c).Start) (omega (arith, few, count, test)) (omega (arith, few, count, test)) _ _ c.line_turn.ensures

pub returns : goal.returns
returns c =
    let few = c.min.ensures in
    let count = c.set_count.ensures in
    let test = c.if-place-min.false in
    λ chunk ended at_in. rw c.in_phase.ensures (sets-over-turn c.args.t chunk ended c.args.out.now at_in c.requires.1 c.args.place c.requires.0 (eight (goal.at.returns c).Start) (few-sets c.args.t chunk ended c.args.out.now at_in c.requires.1 c.args.place c.requires.0 (eight (goal.at.returns c).Start) (omega (arith, few, count, test))))
