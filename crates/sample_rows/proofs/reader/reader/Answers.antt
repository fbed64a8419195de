-- `sample_rows::reader::reader` meets its contract. Assumes nothing.
use Rattle.sample_rows.specs.Streamed.{yet_to_come}
use Rattle.sample_rows.proofs.LineLaws.{from_start}
use Rattle.sample_rows.proofs.reader.reader.Goals as goal

pub returns : goal.returns
unfolding yet_to_come
returns c = from_start
