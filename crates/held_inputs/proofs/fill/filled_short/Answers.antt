-- `held_inputs::fill::filled_short` meets its contract. Assumes nothing.
use mathlib.Core.Path.{refl}
use Rattle.sample_rows.proofs.LineLaws.{take_rest}
use Rattle.held_inputs.proofs.fill.filled_short.Goals as goal

pub returns : goal.returns
returns c =
    let a = c.args in
    record { value = refl; by_index = λ rest. rw (c.reader_at.ensures, take_rest a.chunk.now a.reached.next) at (c.kept.ensures rest) }
