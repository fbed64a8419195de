-- `begun` meets its contract. Assumes nothing.
use mathlib.Core.Bool.{false}
use mathlib.Core.Logic.{inl, inr}
use mathlib.Core.Path.{◌≡◌, refl, sym, ap, ◌∙◌}
use Rattle.run_phases.specs.declared.state.Phase.{Phase}
use Rattle.run_calling.proofs.SecondsLaws.{refusal-begun, run-begun, begun-stops, is_begin}
use Rattle.run_calling.proofs.seconds.begun.Goals as goal

pub returns-in-Refusal : goal.returns-in-Refusal
returns-in-Refusal c = refusal-begun c.args.held c.args.asked.now c.args.out.now _ c.finish.result c.begin-simulation.result _ _ c.finish.ensures c.begin-simulation.ensures (sym c.phase_of.ensures ∙ c.in-Refusal.is) c.refused.ensures

pub returns-in-Heading : goal.returns-in-Heading
returns-in-Heading c = run-begun c.args.held c.args.asked.now c.args.out.now c.args.out.now c.finish.result c.begin-simulation.result c.finish.ensures c.begin-simulation.ensures (sym c.phase_of.ensures ∙ c.in-Heading.is)

pub returns-in-Seconds : goal.returns-in-Seconds
returns-in-Seconds c =
    let stop = λ (p : Phase) (is : c.phase_of.result ≡ p) (un : is_begin p ≡ false). begun-stops c.args.held c.args.asked.now c.args.out.now c.args.out.now c.finish.result c.begin-simulation.result _ _ c.begin-simulation.ensures (ap is_begin (sym c.phase_of.ensures ∙ is) ∙ un) c.stopped.ensures in
    elim c.in-Seconds.is [
      | inl is ↦ stop Phase.Seconds is refl
      | inr (inl is) ↦ stop Phase.SetHeading is refl
      | inr (inr (inl is)) ↦ stop (Phase.SetLine is.0) is.1 refl
      | inr (inr (inr (inl is))) ↦ stop Phase.Over is refl
      | inr (inr (inr (inr is))) ↦ stop Phase.Broken is refl
    ]
