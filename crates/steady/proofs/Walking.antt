-- Commands that leave the sets as they are at the start of a stretch change nothing in it. Assumes nothing.
use Prim.Native.Nat.{ℕ}
use mathlib.Core.Path.{◌≡◌, ap, ◌∙◌}
use mathlib.Core.Bool.{true}
use mathlib.Core.List.{List}
use Rattle.rules.specs.declared.station.Station.{Station}
use Rattle.rules.specs.declared.run.Inputs.{Inputs}
use Rattle.rules.specs.declared.run.Run.{Run}
use Rattle.rules.specs.Commands.{commanded_all}
use Rattle.rules.specs.Configuration.{mask_called}
use Rattle.rules.specs.Modes.{on_mask}
use Rattle.rules.specs.RunRecord.{possible}
use Rattle.rules.specs.Second.{step}
use Rattle.rules.proofs.Shapes.{Tables}
use Rattle.laws.specs.Admitted.{Admitted}
use Rattle.laws.proofs.Kept.{record-kept}
use Rattle.steady.specs.declared.steady_counts.Added.{Added}
use Rattle.steady.specs.declared.steady_step.Steady.{Steady}
use Rattle.steady.specs.NextEvent.{unmoved_all}
use Rattle.steady.specs.Steady.{since_steady}
use Rattle.steady.specs.SteadySecond.{commanded_since}
use Rattle.steady.proofs.SteadyLaws.{steady-commanded}

pub stays-steady : (st : Station) (q : Steady) → q.on ≡ on_mask q.states → unmoved_all q.states q.called ≡ true → (ran : ℕ) (added : List Added) (called : ℕ) → mask_called st.configs called ≡ q.called
    → commanded_since st q ran added called ≡ since_steady q.states q.on ran added
stays-steady st q is-on unmoved ran added called e =
    ap (commanded_all st.sets (since_steady q.states q.on ran added)) e ∙ steady-commanded st.sets q.states q.on is-on ran added q.called unmoved

-- an admitted second leaves a possible record
pub possible-after : (st : Station) → Tables st → (r : Run) (x : Inputs) → Admitted st r x → possible st (step st r x).run ≡ true
unfolding step
possible-after st tables r x h = record-kept st tables r x h
