-- THE STEP meets its contract. Assumes nothing.
use Rattle.judging.proofs.StepLaws.{open-station, open-samples, to_start}
use Rattle.judging.specs.Holds.{JudgesFrom}
use mathlib.Core.Path.{◌≡◌, subst, refl, sym}
use mathlib.Core.Bool.{false}
use mathlib.Core.Logic.{inl, inr}
use Rattle.exchange.proofs.Expected.{is_expected}
use Rattle.judging.specs.Stages.{judge_asks}
use Rattle.judging.specs.declared.state.JudgeStage.{JudgeStage}
use Rattle.judging.proofs.StopLaws.{stop-steps, at_stage}
use Rattle.judging.proofs.judge.judge.Goals as goal

pub returns-in-OpenStation : goal.returns-in-OpenStation
returns-in-OpenStation c = at_stage _ _ c.args.judging.held c.args.event c.args.buf.now _ c.in-OpenStation.is (subst (JudgesFrom JudgeStage.OpenStation c.args.judging.held c.args.event c.args.buf.now) (sym c.moved.ensures) (open-station c.args.judging.held c.args.event c.args.buf.now))

pub returns-in-ReadStation : goal.returns-in-ReadStation
returns-in-ReadStation c = at_stage _ _ c.args.judging.held c.args.event c.args.buf.now _ c.in-ReadStation.is c.station_read.ensures

pub returns-in-OpenSamples : goal.returns-in-OpenSamples
returns-in-OpenSamples c = at_stage _ _ c.args.judging.held c.args.event c.args.buf.now _ c.in-OpenSamples.is (subst (JudgesFrom JudgeStage.OpenSamples c.args.judging.held c.args.event c.args.buf.now) (sym c.opened.ensures) (open-samples _ c.args.judging.held c.args.event c.args.buf.now refl))

pub returns-in-ToStart : goal.returns-in-ToStart
returns-in-ToStart c = at_stage _ _ c.args.judging.held c.args.event c.args.buf.now _ c.in-ToStart.is (subst (JudgesFrom JudgeStage.ToStart c.args.judging.held c.args.event c.args.buf.now) (sym c.moved-in-ToStart.ensures) (to_start c.args.judging.held c.args.event c.args.buf.now))

pub returns-in-ReadSamples : goal.returns-in-ReadSamples
returns-in-ReadSamples c = at_stage _ _ c.args.judging.held c.args.event c.args.buf.now _ c.in-ReadSamples.is c.samples_read.ensures

pub returns-in-Judged : goal.returns-in-Judged
returns-in-Judged c =
    let stop : (stage : JudgeStage) → c.args.judging.stage ≡ stage → is_expected (judge_asks stage) c.args.event ≡ false → JudgesFrom c.args.judging.stage c.args.judging.held c.args.event c.args.buf.now c.stopped.result
    = λ stage is un. at_stage _ stage c.args.judging.held c.args.event c.args.buf.now _ is (stop-steps stage c.args.judging.held c.args.event c.args.event c.args.buf.now _ _ c.stopped.ensures refl un) in
    elim c.in-Judged.is [ inl is ↦ stop JudgeStage.Judged is refl | inr is ↦ stop (JudgeStage.Stopped is.0) is.1 refl ]
