-- `steady::seconds::seconds` meets its contract. Assumes nothing.
use Prim.Native.Nat.{◌*◌, ◌≤◌}
use mathlib.Core.Path.{refl, sym}
use native.Mathlib.Omega.{arith}
use lib.ListN.{length, take}
use lib.Seq.{length-take-le}
use Rattle.admission.proofs.Each.{each-length}
use Rattle.dispatch.proofs.WorkedSeconds.{asked_in, places-in, all-admits, all-worked}
use Rattle.steady.proofs.seconds.seconds.Goals as goal
use Rattle.steady.proofs.seconds.seconds.Goals.{After-judge_seconds-judged}

within : (c : After-judge_seconds-judged) → 3 * c.judge_seconds-judged.result.seconds ≤ length c.args.inputs.now
within c = asked_in c.args.st c.args.run c.args.inputs.now c.args.rows.now _ c.judge_seconds-judged.ensures.counts

pub overflow_mul-count : goal.overflow_mul-count
overflow_mul-count c = record { fits = omega (arith, within c, c.well_formed.1.1.0.0) }

pub slice_bounds-work_seconds-end : goal.slice_bounds-work_seconds-end
slice_bounds-work_seconds-end c = sym (length-take-le _ _ (within c))

pub work_seconds-requires : goal.work_seconds-requires
work_seconds-requires c =
    let a = c.args in
    let counts = c.judge_seconds-judged.ensures.counts in
    (all-admits a.st a.run a.inputs.now a.rows.now _ counts, omega (arith, length-take-le (3 * c.judge_seconds-judged.result.seconds) a.inputs.now (within (goal.at.work_seconds-requires c).After-judge_seconds-judged), each-length (take (3 * c.judge_seconds-judged.result.seconds) a.inputs.now)), places-in a.st a.run a.inputs.now a.rows.now _ counts)

pub returns : goal.returns
returns c =
    let a = c.args in
    all-worked a.st a.run a.inputs.now a.rows.now _ c.judge_seconds-judged.ensures.counts _ _ c.work_seconds.ensures refl c.judge_seconds-judged.ensures.ends
