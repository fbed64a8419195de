-- Where a byte stands in a text, and a part of a text.
use Rattle.std.specs.Prelude.{ℕ, suc, Bool, true, false, ◌==◌, List, [], ◌∷◌, take, drop}

-- one place further, but where the byte stands here
unfoldable pub index_after : Bool → ℕ → ℕ
index_after true n = 0
index_after false n = suc n

-- the place of the first c, and the text's length where there is none
unfoldable pub index_of : ℕ → List ℕ → ℕ
unfolding index_after
index_of c [] = 0
index_of c (x ∷ s) = index_after (x == c) (index_of c s)

-- the bytes from place `from` up to, not including, place `to`
unfoldable pub slice : ℕ → ℕ → List ℕ → List ℕ
slice from to s = drop from (take to s)
