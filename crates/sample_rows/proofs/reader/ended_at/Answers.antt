-- `sample_rows::reader::ended_at` meets its contract. Assumes nothing.
use Rattle.std.proofs.lemmas.Result.{err_from_is_err_and}
use Rattle.sample_rows.proofs.LineLaws.{ending-refused, ending-told}
use Rattle.sample_rows.proofs.reader.ended_at.Goals as goal

pub returns-in_err-verdict_at : goal.returns-in_err-verdict_at
returns-in_err-verdict_at c =
    let p = err_from_is_err_and c.from_residual.result c.from_residual.ensures.1 in
    rw (p.1, p.2) (ending-refused c.args.turn.found _ _ _ c.in_err-verdict_at.was c.verdict_at.ensures c.requires)

pub returns : goal.returns
returns c = ending-told c.args.turn.found _ _ c.in_ok-verdict_at.was c.verdict_at.ensures
