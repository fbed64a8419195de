-- The digits of a number in a buffer, byte after byte. Assumes nothing.
use Prim.Native.Nat.{ℕ, ◌+◌, ◌≤◌, ◌<◌}
use mathlib.Core.Path.{◌≡◌, refl}
use mathlib.Core.List.{List, [], ◌∷◌}
use native.Mathlib.Omega.{arith}
use lib.ListN.{length, drop, set}
use Rattle.rules.specs.Bytes.{decimal}
use Rattle.rules.proofs.Decimals.{decimal-one}
use Rattle.texts.specs.Placed.{Front}

pub put_one : (n : ℕ) (l : List ℕ) → n < 10 → length (decimal n) ≤ length l
    → Front l (decimal n) 1 (set l 0 (48 + n))
put_one n l h k = rw (decimal-one n h) (refl, go l (rw (decimal-one n h) at k))
  where
    go : (l : List ℕ) → 1 ≤ length l → set l 0 (48 + n) ≡ (48 + n) ∷ drop 1 l
    go [] k = absurd (omega arith)
    go (x ∷ l) k = refl
