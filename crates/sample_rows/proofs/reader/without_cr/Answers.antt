-- `sample_rows::reader::without_cr` meets its contract. Assumes nothing.
use native.Mathlib.Omega.{arith}
use lib.ListN.{length-take}
use Rattle.sample_rows.proofs.LineLaws.{no_byte, cr-dropped, no-cr}
use Rattle.sample_rows.proofs.reader.without_cr.Goals as goal

pub returns-then-n-eq0 : goal.returns-then-n-eq0
returns-then-n-eq0 c = no_byte _ c.if-n-eq0.true

pub slice_bounds-result-length : goal.slice_bounds-result-length
slice_bounds-result-length c = simp length-take (omega arith)

pub returns-then-line-n-eq13 : goal.returns-then-line-n-eq13
returns-then-line-n-eq13 c = cr-dropped _ _ (omega arith) c.if-line-n-eq13.true

pub returns : goal.returns
returns c = no-cr _ _ (omega arith) c.if-line-n-eq13.false
