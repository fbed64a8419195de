-- THE LAW of a long argument: "Seconds asked are 1 to 9 digits, else 18", so that an argument of more than 9 bytes is 18 whatever
-- follows, and a program may cut it after the tenth byte. Assumes nothing.
use Prim.Native.Nat.{ℕ, ◌≤◌, ◌<◌}
use mathlib.Core.Path.{◌≡◌}
use mathlib.Core.List.{List, ◌++◌}
use native.Mathlib.Omega.{arith}
use lib.ListN.{length, length-append}
use Rattle.rules.specs.Answers.{refused}
use Rattle.rules.specs.Bytes.{digits}
use Rattle.rules.specs.Run.{seconds_asked}
use Rattle.rules.proofs.Tests.{over-range}

pub long-asked : (s more : List ℕ) → 10 ≤ length s → seconds_asked (s ++ more) ≡ refused 18 0
unfolding seconds_asked digits
long-asked s more h =
    let n : 9 < length (s ++ more) = omega (arith, length-append s more) in
    rw (over-range 1 9 (length (s ++ more)) n)
