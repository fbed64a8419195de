-- Tests of every element, and of every place, as the library's word for them. Assumes nothing.
use Prim.Native.Nat.{ℕ}
use mathlib.Core.Path.{◌≡◌, refl, ap}
use mathlib.Core.Bool.{Bool, true, false, ◌&&◌}
use mathlib.Core.List.{List, [], ◌∷◌}
use Rattle.std.specs.List.{list_all, range_with_len}
use Rattle.rules.specs.Numbers.{every, all_to}

pub every-is-all : {A : Type 0} (p : A → Bool) (l : List A) → every p l ≡ list_all p l
unfolding every
every-is-all p [] = refl
every-is-all p (x ∷ xs) = ap (λ b. p x && b) (every-is-all p xs)

-- ---- the places of the four rises and of the five pairs

four : (a b c d : Bool) → a && (b && (c && (d && true))) ≡ true && a && b && c && d
four true true true true = refl
four true true true false = refl
four true true false d = refl
four true false c d = refl
four false b c d = refl

pub four-places : (p : ℕ → Bool) → list_all p (range_with_len 0 4) ≡ all_to 4 p
unfolding all_to
four-places p = four (p 0) (p 1) (p 2) (p 3)

five : (a b c d e : Bool) → a && (b && (c && (d && (e && true)))) ≡ true && a && b && c && d && e
five true b c d e = four b c d e
five false b c d e = refl

pub five-places : (p : ℕ → Bool) → list_all p (range_with_len 0 5) ≡ all_to 5 p
unfolding all_to
five-places p = five (p 0) (p 1) (p 2) (p 3) (p 4)
