-- A test and then the same test of each element of a list, one after the other as the code asks them. Assumes nothing.
use mathlib.Core.Path.{◌≡◌, refl, ◌∙◌}
use mathlib.Core.Bool.{Bool, true, false, ◌&&◌}
use mathlib.Core.List.{List, [], ◌∷◌, map}
use Rattle.rules.specs.Numbers.{all_from, every}

and-true-end : (b : Bool) → b ≡ b && true
and-true-end true = refl
and-true-end false = refl

and_assoc : (a b c : Bool) → a && b && c ≡ a && (b && c)
and_assoc true b c = refl
and_assoc false b c = refl

pub every-from : {A : Type 0} (p : A → Bool) (b : Bool) (xs : List A) → all_from b (map p xs) ≡ b && every p xs
unfolding every
every-from p b [] = and-true-end b
every-from p b (x ∷ xs) = every-from p (b && p x) xs ∙ and_assoc b (p x) (every p xs)
