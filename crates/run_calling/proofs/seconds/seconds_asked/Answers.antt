-- `seconds_asked` meets its contract. Assumes nothing.
use mathlib.Core.Path.{refl}
use mathlib.Core.Logic.{inl, inr}
use Rattle.std.proofs.Common.{rules}
use Rattle.exchange.proofs.BufferLaws.{first-bytes}
use Rattle.run_stages.specs.declared.state.Stage.{Stage}
use Rattle.run_stages.proofs.StopLaws.{stop-steps, short-argument, at-event}
use Rattle.run_calling.proofs.SecondsLaws.{asked-steps}
use Rattle.run_calling.proofs.seconds.seconds_asked.Goals as goal

pub returns-in-Some : goal.returns-in-Some
returns-in-Some c =
    let asked = first-bytes _ c.args.buf.now _ c.in-Some.ensures.lookup.0.2 in
    at-event Stage.AskSeconds c.args.held c.args.event _ c.args.buf.now c.args.out.now _ _ c.in-Read.is (asked-steps c.args.held _ c.args.buf.now _ c.args.out.now _ _ asked c.begun.ensures)

pub returns-in-None : goal.returns-in-None
returns-in-None c =
    let short = c.in-None.ensures.lookup in
    short-argument c.args.held c.args.event _ c.args.buf.now c.args.out.now c.args.out.now _ _ c.stopped.ensures c.in-Read.is (search (rules, short))

pub returns-in-Failed : goal.returns-in-Failed
returns-in-Failed c = stop-steps Stage.AskSeconds c.args.held c.args.event _ c.args.buf.now c.args.out.now c.args.out.now _ _ c.stopped-in-Failed.ensures c.in-Failed.is refl

pub returns-in-Done : goal.returns-in-Done
returns-in-Done c =
    elim c.in-Done.is [
      | inl is ↦ stop-steps Stage.AskSeconds c.args.held c.args.event _ c.args.buf.now c.args.out.now c.args.out.now _ _ c.stopped-in-Done.ensures is refl
      | inr (inl is) ↦ stop-steps Stage.AskSeconds c.args.held c.args.event _ c.args.buf.now c.args.out.now c.args.out.now _ _ c.stopped-in-Done.ensures is.1 refl
      | inr (inr is) ↦ stop-steps Stage.AskSeconds c.args.held c.args.event _ c.args.buf.now c.args.out.now c.args.out.now _ _ c.stopped-in-Done.ensures is refl
    ]
