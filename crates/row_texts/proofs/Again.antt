-- Text that stands in a buffer, put again after itself. Assumes nothing.
use Prim.Native.Nat.{ℕ, ◌+◌, ◌-◌, ◌≤◌, min}
use mathlib.Core.Path.{◌≡◌, ◌∙◌}
use mathlib.Core.List.{List, append_assoc}
use native.Mathlib.Omega.{arith}
use lib.ListN.{length, take, drop, length-take, length-drop}
use lib.Seq.{drop-drop}
use Rattle.std.specs.List.{copy_within}
use Rattle.texts.specs.Placed.{placed}

pub again : (l : List ℕ) (from size at : ℕ) → from + size ≤ length l → copy_within l from (from + size) at ≡ placed l at (take size (drop from l))
again l from size at room =
    let k : from + size - from ≡ size = omega arith in
    let n : length (take size (drop from l)) ≡ size = length-take size (drop from l) ∙ (let m : min size (length (drop from l)) ≡ size = omega (arith, length-drop from l) in m) in
    rw (k, n, append_assoc, ← drop-drop)
