-- `arguments::seconds::seconds_asked` meets its contract. Assumes nothing.
use native.Mathlib.Omega.{arith}
use Rattle.std.proofs.lemmas.Grind.{common_steps}
use mathlib.Core.Path.{sym, ap, ◌∙◌}
use Rattle.rules.specs.Answers.{accepted}
use Rattle.arguments.proofs.AskedLaws.{asked_by, asked_by_lem}
use Rattle.arguments.proofs.seconds.seconds_asked.Goals as goal

pub returns-in-Ok : goal.returns-in-Ok
returns-in-Ok c =
    let cell = c.time in
    let s = c.args.bytes.now in
    ap accepted c.from.ensures ∙ ap asked_by (sym c.in-Ok.is) ∙ asked_by_lem cell.result s cell.ensures

pub returns-in-Err-Malformed : goal.returns-in-Err-Malformed
returns-in-Err-Malformed c =
    let s = c.args.bytes.now in
    let h = asked_by_lem c.time.result s c.time.ensures in
    grind (arith, common_steps, h)

pub returns-in-Err-OverLimit : goal.returns-in-Err-OverLimit
returns-in-Err-OverLimit c =
    let s = c.args.bytes.now in
    let h = asked_by_lem c.time.result s c.time.ensures in
    grind (arith, common_steps, h)
