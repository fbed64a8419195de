-- The steps of a walk over the places of a mask's sets.
use Rattle.std.specs.Prelude.{ℕ, ◌≡◌, ◌+◌, ◌<◌, ◌≤◌, Option, MatchOption}
use Rattle.words.specs.declared.masks.Places.{Places}
use Rattle.words.specs.Masks.{next_set}

-- the next set of the mask from where the walk stands, or none
abbrev pub Walks : Places → Option ℕ → Places → Type 0
Walks s r t = (t.mask ≡ s.mask) × MatchOption r (8 ≤ next_set s.mask s.from) (λ place. (place ≡ next_set s.mask s.from) × (place < 8) × (t.from ≡ place + 1))
