-- `counted` meets its contract. Assumes nothing.
use Rattle.check_machine.proofs.StopLaws.{stop-steps, wrong-count, at-event}
use Rattle.check_machine.proofs.StepLaws.{count-right}
use Rattle.check_machine.specs.declared.state.Stage.{Stage}
use mathlib.Core.Path.{◌≡◌, refl, sym, ◌∙◌}
use mathlib.Core.Bool.{false}
use mathlib.Core.Logic.{inl, inr}
use Rattle.exchange.proofs.Expected.{is_expected}
use Rattle.exchange.specs.declared.action.Action.{Action}
use Rattle.exchange.specs.declared.event.Event.{Event}
use Rattle.check_machine.proofs.opening.counted.Goals as goal

pub returns-in-Count-eq3 : goal.returns-in-Count-eq3
returns-in-Count-eq3 c =
    let count = c.in-Count-eq3 in
    λ buf out. at-event Stage.Counting c.args.held c.args.event _ buf out out _ count.is (count-right c.args.held _ buf out (sym count.field-0-is ∙ count.field-0-test))

pub returns-in-Count : goal.returns-in-Count
returns-in-Count c =
    let count = c.in-Count in
    λ buf out. wrong-count c.args.held c.args.event _ buf out _ _ c.stopped.ensures count.is (λ right. count.field-0-test.1 (count.field-0-is ∙ right))

pub returns-in-Done : goal.returns-in-Done
returns-in-Done c = λ buf out.
    let stop = λ (e : Event) (is : c.args.event ≡ e) (un : is_expected Action.Count e ≡ false). stop-steps Stage.Counting c.args.held c.args.held c.args.event e buf out out _ _ c.stopped-in-Done.ensures is un in
    elim c.in-Done.is [
      | inl is ↦ stop Event.Done is refl
      | inr (inl is) ↦ stop (Event.Read is.0) is.1 refl
      | inr (inr (inl is)) ↦ stop Event.End is refl
      | inr (inr (inr is)) ↦ stop Event.Failed is refl
    ]
