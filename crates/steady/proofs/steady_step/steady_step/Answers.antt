-- `steady::steady_step::steady_step` meets its contract. Assumes nothing.
use borrow.Author.Rules.{rules}
use Rattle.rules.proofs.Shapes.{Tables}
use Rattle.steady.proofs.SteadySteps.{addable, steady-stepped}
use Rattle.steady.proofs.steady_step.steady_step.Goals as goal
use Rattle.steady.proofs.steady_step.steady_step.Goals.{Start}

-- the station's tables have their lengths
tables : (c : Start) → Tables c.args.st
tables c = record { sets-length = search rules; configs-length = search rules }

pub count_steady-requires : goal.count_steady-requires
count_steady-requires c =
    (addable c.args.st (tables (goal.at.count_steady-requires c).Start) c.args.steady.now c.args.standing c.requires.0 c.requires.1 c.args.added.now c.args.decided.now c.args.inputs c.requires.2 c.args.caps.now c.requires.3 c.requires.4 _ c.oldest.ensures _ c.meet_load-met.ensures, c.requires.5)

pub shape_of-decided : goal.shape_of-decided
shape_of-decided c = c.decide.auto.amounts

pub returns : goal.returns
returns c =
    steady-stepped c.args.st (tables (goal.at.returns c).Start) c.args.steady.now c.args.standing c.requires.0 c.requires.1 c.args.added.now c.args.decided.now c.args.inputs c.requires.2 c.args.caps.now c.requires.3 c.requires.4 _ c.oldest.ensures _ c.meet_load-met.ensures _ c.decide.ensures _ c.count_steady.ensures _ c.commit_at-chosen.ensures _ c.moment_after.ensures c.row_of.ensures
