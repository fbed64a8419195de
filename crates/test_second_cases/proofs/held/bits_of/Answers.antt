-- `test_second_cases::held::bits_of` is safe and ends. A number that equals itself is no NaN. Assumes nothing.
use mathlib.Core.Path.{◌≡◌, sym}
use mathlib.Core.Bool.{false, not}
use lib.Dec.{T}
use lib.Ieee.{Float, nan, inf, fin, is_nan, ne, eq}
use Rattle.rules.proofs.Tests.{never}
use Rattle.test_second_cases.proofs.held.bits_of.Goals as goal

no_nan : (x : Float) → ne x x ≡ false → T (not (is_nan x))
unfolding is_nan ne eq
no_nan nan h = never (sym h)
no_nan (inf s) h = tt
no_nan (fin s m e) h = tt

pub float_to_bits-result : goal.float_to_bits-result
float_to_bits-result c = no_nan c.args.number c.if-number.false
