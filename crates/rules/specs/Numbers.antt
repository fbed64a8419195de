-- Words that every other file uses: ranges, masks of sets, and sums, tests and tables over places. A choice, `if b then x else y`, is the library's.
-- Places count from 0 here: the paper's set 1, whose bit is bit 0, is place 0.
-- `-` on natural numbers stops at zero: `a - b` is the paper's max(0, a - b). `/` rounds down, as 01 says of all divisions.
use Rattle.std.specs.Prelude.{ℕ, zero, suc, ◌+◌, ◌/◌, ◌%◌, ◌^◌, Bool, true, ◌&&◌, List, [], ◌∷◌, ◌++◌, leb, ltb, eqb, if◌then◌else◌}

-- least ≤ n ≤ most
abbrev pub within : ℕ → ℕ → ℕ → Bool
within least most n = leb least n && leb n most

-- "bit 0 is set 1": the mask has the set at place i
abbrev pub has : ℕ → ℕ → Bool
has mask i = eqb (mask / 2 ^ i % 2) 1

-- "existing sets only"
abbrev pub existing_only : ℕ → ℕ → Bool
existing_only setcount mask = ltb mask (2 ^ setcount)

-- f 0 + .. + f (n - 1)
unfoldable pub sum_to : ℕ → (ℕ → ℕ) → ℕ
sum_to zero f = 0
sum_to (suc n) f = sum_to n f + f n

-- every one of p 0, .., p (n - 1)
unfoldable pub all_to : ℕ → (ℕ → Bool) → Bool
all_to zero p = true
all_to (suc n) p = all_to n p && p n

-- the list f 0, .., f (n - 1)
unfoldable pub tab : {A : Type 0} → ℕ → (ℕ → A) → List A
tab zero f = []
tab (suc n) f = tab n f ++ (f n ∷ [])

-- the mask of the places i below n with p i
unfoldable pub mask_of : ℕ → (ℕ → Bool) → ℕ
mask_of zero p = 0
mask_of (suc n) p = mask_of n p + (if p n then 2 ^ n else 0)

-- every test of a list holds: `all_hold (a ∷ b ∷ c ∷ [])` computes to a && b && c
abbrev pub all_from : Bool → List Bool → Bool
all_from b [] = b
all_from b (c ∷ cs) = all_from (b && c) cs

abbrev pub all_hold : List Bool → Bool
all_hold bs = all_from true bs

-- every element of a list passes a test
unfoldable pub every : {A : Type 0} → (A → Bool) → List A → Bool
every p [] = true
every p (x ∷ xs) = p x && every p xs

-- every number of a list is zero
abbrev pub all_zero : List ℕ → Bool
all_zero xs = every (λ x. eqb x 0) xs
