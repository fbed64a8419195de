-- The decided amounts move by one place, as a copy within them moves them, and a delay beyond their number moves them all. Assumes nothing.
use Prim.Native.Nat.{ℕ, zero, suc, ◌+◌, ◌-◌, ◌≤◌, min, max}
use mathlib.Core.Path.{◌≡◌, refl, sym, ap, ◌∙◌}
use mathlib.Core.List.{List, [], ◌∷◌, ◌++◌}
use native.Mathlib.Omega.{arith}
use native.Mathlib.Decide.{dec_le}
use lib.ListN.{length, take, drop, set, length-drop, drop_of_length-le}
use lib.Seq.{take_all}
use Rattle.std.proofs.Common.{length-take-le}
use Rattle.std.specs.List.{copy_within}
use Rattle.rules.specs.Flows.{decided_after}

-- what stands behind a part gives way to the new amount
new-behind : (front rest : List ℕ) (new : ℕ) → set (front ++ rest) (length front) new ≡ front ++ set rest 0 new
new-behind [] rest new = refl
new-behind (x ∷ front) rest new = ap (λ (l : List ℕ). x ∷ l) (new-behind front rest new)

-- the last of those that moved stands twice, and its second place is the new one's
new-last : (n x : ℕ) (amounts : List ℕ) (new : ℕ) → n ≤ length amounts → set (drop n (x ∷ amounts)) 0 new ≡ new ∷ drop n amounts
new-last zero x amounts new h = refl
new-last (suc n) x [] new h = absurd (omega arith)
new-last (suc n) x (y ∷ amounts) new h = new-last n y amounts new (omega arith)

-- the first of them moved by one place, and the new one put last among them
pub moved : (count : ℕ) (amounts : List ℕ) (new : ℕ) → 1 ≤ count → count ≤ length amounts → set (copy_within amounts 1 count 0) (count - 1) new ≡ decided_after count amounts new
unfolding decided_after
moved zero amounts new p h = absurd (omega arith)
moved (suc n) [] new p h = absurd (omega arith)
moved (suc n) (x ∷ amounts) new p h =
    let last : suc n - 1 ≡ n = omega arith in
    let none : 0 + n ≡ n = omega arith in
    let size : length (take n amounts) ≡ n = length-take-le n amounts (omega arith) in
    rw (last, none, ← new-last n x amounts new (omega arith)) (rw size at (new-behind (take n amounts) (drop n (x ∷ amounts)) new))

-- from as many seconds as there are amounts on, all of them move
all-move : (count : ℕ) (amounts : List ℕ) (new : ℕ) → length amounts ≤ count → decided_after count amounts new ≡ drop 1 amounts ++ (new ∷ [])
unfolding decided_after
all-move count amounts new h =
    rw (take_all (count - 1) (drop 1 amounts) (rw length-drop (omega arith)), drop_of_length-le amounts h)

pub most-move : (delay count : ℕ) (amounts : List ℕ) (new : ℕ) → length amounts ≡ 60 → count ≡ min 60 (max 1 delay)
    → decided_after count amounts new ≡ decided_after (max 1 delay) amounts new
most-move delay count amounts new size e = cases (dec_le delay 60)
  where
    cases : Dec (delay ≤ 60) → decided_after count amounts new ≡ decided_after (max 1 delay) amounts new
    cases (yes h) = let k : count ≡ max 1 delay = omega arith in rw k
    cases (no h) = all-move count amounts new (omega (arith, h)) ∙ sym (all-move (max 1 delay) amounts new (omega (arith, h)))
