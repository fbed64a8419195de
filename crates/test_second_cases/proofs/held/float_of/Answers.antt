-- `test_second_cases::held::float_of` is safe and ends. A pattern that is not above that of infinity, the sign dropped, is no NaN's. Assumes nothing.
use lib.Ieee.{binary64}
use lib.Ieee.Bits.{nan_bits_above}
use borrow.Author.Tests.{le-ltb}
use Rattle.test_second_cases.proofs.held.float_of.Goals as goal

pub float_from_bits-result : goal.float_from_bits-result
float_from_bits-result c = rw (nan_bits_above binary64 c.args.bits, le-ltb _ _ c.if-bits-gt-INFINITY.false) tt
