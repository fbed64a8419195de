-- `input_source::source::inputs` meets its contract. Assumes nothing.
use mathlib.Core.Path.{refl}
use Rattle.input_source.specs.Source.{source_rows}
use Rattle.input_source.proofs.source.inputs.Goals as goal

pub returns : goal.returns
unfolding source_rows
returns c = record { by_index = λ rest. c.reader.ensures rest; result_value = (refl, refl) }
