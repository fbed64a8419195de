-- `admission::admit::judge_seconds` meets its contract. Assumes nothing.
use Prim.Native.Nat.{ℕ, ◌/◌, min}
use mathlib.Core.Path.{◌≡◌, sym, ◌∙◌}
use mathlib.Core.List.{List}
use lib.ListN.{length}
use borrow.Author.Rules.{rules}
use Rattle.rules.specs.declared.station.Station.{Station}
use Rattle.rules.specs.declared.run.Run.{Run}
use Rattle.rules.specs.Seconds.{inputs_each, came_to}
use Rattle.rules.proofs.Shapes.{Tables}
use Rattle.admission.specs.declared.admit.Judged.{Judged}
use Rattle.admission.specs.Admission.{admitted_of, ended_at, JudgedBy}
use Rattle.admission.proofs.Each.{each-length}
use Rattle.admission.proofs.Counted.{ends_by, came-count, enough-room}
use Rattle.admission.proofs.admit.judge_seconds.Goals as goal
use Rattle.admission.proofs.admit.judge_seconds.Goals.{Start}

-- the station's tables have their lengths
tables : (c : Start) → Tables c.args.st
tables c = record { sets-length = search rules; configs-length = search rules }

judged : (st : Station) → Tables st → (r : Run) (inputs : List ℕ) (room : ℕ) (j : Judged)
    → j.seconds ≡ admitted_of st r (inputs_each inputs) (min (length inputs / 3) room) → j.ended ≡ ended_at j.seconds (length inputs / 3) room
    → JudgedBy (came_to st r (inputs_each inputs) room) j
unfolding admitted_of
judged st tables r inputs room j e k =
    let count : j.seconds ≡ length (came_to st r (inputs_each inputs) room).rows =
    e ∙ rw (← each-length inputs, enough-room r.done (inputs_each inputs) room) (sym (came-count st tables r (inputs_each inputs) room))
    in
    record { counts = count; ends = k ∙ rw (count, ← each-length inputs) (sym (ends_by st r (inputs_each inputs) room).ended_is) }

pub returns : goal.returns
returns c =
    judged c.args.st (tables (goal.at.returns c).Start) c.args.run c.args.inputs.now c.args.room _ (c.admitted_of-count.ensures ∙ rw c.min.ensures) c.ended_at.ensures
