-- `counted` meets its contract. Assumes nothing.
use mathlib.Core.Path.{◌≡◌, refl}
use mathlib.Core.Bool.{false}
use mathlib.Core.Logic.{inl, inr}
use Rattle.exchange.proofs.Expected.{is_expected}
use Rattle.exchange.specs.declared.action.Action.{Action}
use Rattle.exchange.specs.declared.event.Event.{Event}
use Rattle.run_stages.specs.declared.state.Stage.{Stage}
use Rattle.run_stages.proofs.StopLaws.{stop-steps, at-event}
use Rattle.run_calling.proofs.CallingLaws.{count-steps}
use Rattle.run_calling.proofs.calling.counted.Goals as goal

pub returns-in-Count : goal.returns-in-Count
returns-in-Count c = at-event Stage.Counting c.args.held c.args.event _ c.args.buf.now c.args.out.now c.args.out.now _ c.in-Count.is (count-steps c.args.held _ c.args.buf.now c.args.out.now c.args.out.now _ c.called.ensures)

pub returns-in-Done : goal.returns-in-Done
returns-in-Done c =
    let stop = λ (e : Event) (is : c.args.event ≡ e) (un : is_expected Action.Count e ≡ false). stop-steps Stage.Counting c.args.held c.args.event e c.args.buf.now c.args.out.now c.args.out.now _ _ c.stopped.ensures is un in
    elim c.in-Done.is [
      | inl is ↦ stop Event.Done is refl
      | inr (inl is) ↦ stop (Event.Read is.0) is.1 refl
      | inr (inr (inl is)) ↦ stop Event.End is refl
      | inr (inr (inr is)) ↦ stop Event.Failed is refl
    ]
