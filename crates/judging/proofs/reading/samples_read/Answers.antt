-- `samples_read` meets its contract. Assumes nothing.
use Rattle.judging.proofs.SampleLaws.{samples-read-steps, samples-end-steps}
use Rattle.judging.specs.declared.state.JudgeStage.{JudgeStage}
use Rattle.judging.proofs.StopLaws.{stop-steps, short-stop, at-event}
use Rattle.std.proofs.Common.{rules}
use Rattle.exchange.proofs.BufferLaws.{first-bytes}
use mathlib.Core.Logic.{inl, inr}
use mathlib.Core.Path.{refl}
use Rattle.judging.proofs.reading.samples_read.Goals as goal

pub returns-in-End : goal.returns-in-End
returns-in-End c = at-event JudgeStage.ReadSamples c.args.held c.args.event _ c.args.buf.now _ c.in-End.is (samples-end-steps c.args.held c.args.buf.now)

pub returns-in-Done : goal.returns-in-Done
returns-in-Done c =
    elim c.in-Done.is [
      | inl is ↦ stop-steps JudgeStage.ReadSamples c.args.held c.args.event _ c.args.buf.now _ _ c.stopped-in-Done.ensures is refl
      | inr is ↦ stop-steps JudgeStage.ReadSamples c.args.held c.args.event _ c.args.buf.now _ _ c.stopped-in-Done.ensures is.1 refl
    ]

pub returns-in-Failed : goal.returns-in-Failed
returns-in-Failed c = stop-steps JudgeStage.ReadSamples c.args.held c.args.event _ c.args.buf.now _ _ c.stopped-in-Failed.ensures c.in-Failed.is refl

pub returns-in-Some : goal.returns-in-Some
returns-in-Some c =
    let chunk = first-bytes _ c.args.buf.now _ c.in-Some.ensures.lookup.0.2 in
    at-event JudgeStage.ReadSamples c.args.held c.args.event _ c.args.buf.now _ c.in-Read.is (samples-read-steps c.args.held _ c.args.buf.now _ _ chunk c.samples_chunk.ensures)

pub returns-in-None : goal.returns-in-None
returns-in-None c =
    let short = c.in-None.ensures.lookup in
    short-stop JudgeStage.ReadSamples 2 c.args.held c.args.event _ c.args.buf.now _ _ refl c.stopped.ensures c.in-Read.is (search (rules, short))
