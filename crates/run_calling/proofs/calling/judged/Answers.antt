-- `judged` meets its contract. Assumes nothing.
use mathlib.Core.Path.{◌≡◌, refl, ap, ◌∙◌}
use mathlib.Core.Bool.{false}
use mathlib.Core.Logic.{inl, inr}
use Rattle.exchange.specs.Existing.{gives_up}
use Rattle.judging.specs.declared.state.JudgeStage.{JudgeStage}
use Rattle.judging.specs.Stages.{judge_asks}
use Rattle.run_calling.proofs.CallingLaws.{read-on-steps, judged-steps, unread-steps}
use Rattle.run_calling.proofs.calling.judged.Goals as goal

pub returns-in-Judged : goal.returns-in-Judged
returns-in-Judged c = judged-steps c.args.held c.args.event c.args.buf.now c.args.out.now c.args.out.now c.judge-judging.result c.judge-judging.ensures c.in-Judged.is

pub returns-in-Stopped : goal.returns-in-Stopped
returns-in-Stopped c = unread-steps c.args.held c.args.event c.args.buf.now c.args.out.now c.args.out.now c.judge-judging.result c.judge-judging.ensures _ _ _ c.in-Stopped.is c.stopped.ensures

pub returns-in-OpenStation : goal.returns-in-OpenStation
returns-in-OpenStation c =
    let on = λ (stage : JudgeStage) (is : c.judge-judging.result.stage ≡ stage) (more : gives_up (judge_asks stage) ≡ false). read-on-steps c.args.held c.args.event c.args.buf.now c.args.out.now c.args.out.now c.judge-judging.result c.judge-judging.ensures (ap (λ (s : JudgeStage). gives_up (judge_asks s)) is ∙ more) in
    elim c.in-OpenStation.is [
      | inl is ↦ on JudgeStage.OpenStation is refl
      | inr (inl is) ↦ on JudgeStage.ReadStation is refl
      | inr (inr (inl is)) ↦ on JudgeStage.OpenSamples is refl
      | inr (inr (inr (inl is))) ↦ on JudgeStage.ToStart is refl
      | inr (inr (inr (inr is))) ↦ on JudgeStage.ReadSamples is refl
    ]
