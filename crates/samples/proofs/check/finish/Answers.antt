-- `samples::check::finish` meets its contract. Assumes nothing.
use mathlib.Core.Path.{ap, ◌∙◌}
use Rattle.std.proofs.lemmas.Result.{err_from_is_err_and}
use Rattle.rules.specs.Answers.{accepted}
use Rattle.samples.proofs.CheckLaws.{last-told, refused_end}
use Rattle.samples.proofs.check.finish.Goals as goal

pub returns-in_err-last : goal.returns-in_err-last
returns-in_err-last c =
    let p = err_from_is_err_and c.from_residual.result c.from_residual.ensures.1 in
    rw (p.1, p.2) (refused_end c.args.check _ _ c.end.ensures c.in_err-last.was)

pub returns : goal.returns
returns c = ap accepted c.counted.ensures ∙ last-told c.args.check _ _ c.end.ensures c.in_ok-last.was
