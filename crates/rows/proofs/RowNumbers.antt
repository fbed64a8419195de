-- How many numbers rows have. Assumes nothing.
use Prim.Native.Nat.{◌*◌}
use mathlib.Core.Path.{◌≡◌, refl}
use mathlib.Core.List.{List, [], ◌∷◌}
use native.Mathlib.Omega.{arith}
use lib.ListN.{length}
use Rattle.rules.specs.declared.run.Row.{Row}
use Rattle.rules.specs.Seconds.{numbers_of}

pub numbers-length : (rows : List Row) → length (numbers_of rows) ≡ 13 * length rows
unfolding numbers_of
numbers-length [] = refl
numbers-length (r ∷ rows) = omega (arith, numbers-length rows)
