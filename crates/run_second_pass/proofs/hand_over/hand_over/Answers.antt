-- `hand_over` meets its contract. Assumes nothing.
use Rattle.std.proofs.Common.{rules}
use Rattle.exchange.proofs.BufferLaws.{first-bytes}
use Rattle.run_second_pass.proofs.HandingLaws.{call-hands, handing-stops}
use Rattle.run_second_pass.proofs.hand_over.hand_over.Goals as goal

pub returns-in_default : goal.returns-in_default
returns-in_default c =
    let short = c.in_default.ensures.lookup in
    handing-stops c.args.held c.args.buf.now c.args.out.now c.args.out.now _ _ (search (rules, short)) c.stopped.ensures

pub returns : goal.returns
returns c =
    let chunk = first-bytes _ c.args.buf.now _ c.in-Some.ensures.lookup.0.2 in
    call-hands c.args.held c.args.buf.now _ c.args.out.now c.advance-turn.result _ chunk c.advance-turn.ensures
