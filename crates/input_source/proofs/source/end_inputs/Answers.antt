-- `input_source::source::end_inputs` meets its contract. Assumes nothing.
use Rattle.input_source.proofs.EndLaws.{ended-right}
use Rattle.input_source.proofs.source.end_inputs.Goals as goal

pub returns : goal.returns
returns c = ended-right c.args.source _ _ c.end.ensures c.ahead_at_end.ensures
