-- The parts of a text between two bytes c, from where the first c stands. Assumes nothing.
use Rattle.std.specs.Prelude.{if◌then◌else◌}
use Prim.Native.Nat.{ℕ, suc, ◌≤◌, ◌<◌, zero-le, suc-le-suc}
use mathlib.Core.Path.{◌≡◌, refl}
use mathlib.Core.Bool.{Bool, true, false}
use mathlib.Core.List.{List, [], ◌∷◌}
use native.Mathlib.Omega.{arith}
use lib.Dec.{eqb}
use lib.ListN.{length, take, drop}
use Rattle.byte_search.specs.Bytes.{index_after, index_of}
use Rattle.rules.specs.Bytes.{in_front, parts}

-- the first c stands in the text, or its place is the text's length
pub index-le : (c : ℕ) (s : List ℕ) → index_of c s ≤ length s
unfolding index_of
index-le c [] = zero-le
index-le c (x ∷ s) = go (eqb x c) (index-le c s)
  where
    go : (b : Bool) {n m : ℕ} → n ≤ m → index_after b n ≤ suc m
    go true h = zero-le
    go false h = suc-le-suc h

-- a text without c is its only part
pub part-last : (c : ℕ) (s : List ℕ) → index_of c s ≡ length s → parts c s ≡ s ∷ []
unfolding parts index_of index_after
part-last c [] h = refl
part-last c (x ∷ s) h = go (eqb x c) (part-last c s) h
  where
    go : (b : Bool) → (index_of c s ≡ length s → parts c s ≡ s ∷ []) → index_after b (index_of c s) ≡ suc (length s)
        → (if b then [] ∷ parts c s else in_front x (parts c s)) ≡ (x ∷ s) ∷ []
    go true rest h = absurd (omega arith)
    go false rest h = rw (rest (omega arith))

-- the first part ends before the first c, and the others are those of what follows it
pub part-first : (c : ℕ) (s : List ℕ) → index_of c s < length s
    → parts c s ≡ take (index_of c s) s ∷ parts c (drop (suc (index_of c s)) s)
unfolding parts index_of index_after
part-first c [] h = absurd (omega arith)
part-first c (x ∷ s) h = go (eqb x c) (part-first c s) h
  where
    go : (b : Bool) → (index_of c s < length s → parts c s ≡ take (index_of c s) s ∷ parts c (drop (suc (index_of c s)) s))
        → index_after b (index_of c s) < suc (length s)
        → (if b then [] ∷ parts c s else in_front x (parts c s))
        ≡ take (index_after b (index_of c s)) (x ∷ s) ∷ parts c (drop (suc (index_after b (index_of c s))) (x ∷ s))
    go true rest h = refl
    go false rest h = rw (rest (omega arith))
