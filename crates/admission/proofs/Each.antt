-- Three numbers for each second: how many seconds, and those from a place on. Assumes nothing.
use Prim.Native.Nat.{ℕ, zero, suc, ◌+◌, ◌*◌, ◌/◌, ◌≤◌}
use mathlib.Core.Path.{◌≡◌, refl, sym, ap, ◌∙◌}
use mathlib.Core.List.{List, [], ◌∷◌}
use native.Mathlib.Omega.{arith}
use lib.ListN.{length, take, drop, length-drop}
use lib.Seq.{drop-nil, drop-drop}
use Rattle.rules.specs.declared.run.Inputs.{Inputs}
use Rattle.rules.specs.Seconds.{inputs_each}
use Rattle.admission.specs.Admission.{first_inputs}

-- three times one more
three-more : (n : ℕ) → 3 * suc n ≡ suc (suc (suc (3 * n)))
three-more n = omega arith

pub first-each : (inputs : List ℕ) → 3 ≤ length inputs → inputs_each inputs ≡ first_inputs inputs ∷ inputs_each (drop 3 inputs)
unfolding inputs_each
first-each [] h = absurd (omega arith)
first-each (l ∷ []) h = absurd (omega arith)
first-each (l ∷ s ∷ []) h = absurd (omega arith)
first-each (l ∷ s ∷ h₁ ∷ more) h = refl

pub each-length : (inputs : List ℕ) → length (inputs_each inputs) ≡ length inputs / 3
unfolding inputs_each
each-length [] = refl
each-length (l ∷ []) = refl
each-length (l ∷ s ∷ []) = refl
each-length (l ∷ s ∷ h ∷ more) = omega (arith, each-length more)

-- the seconds from one on
pub each-drop : (i : ℕ) (inputs : List ℕ) → inputs_each (drop (3 * i) inputs) ≡ drop i (inputs_each inputs)
unfolding inputs_each
each-drop zero inputs = refl
each-drop (suc i) [] = rw (drop-nil (3 * suc i))
each-drop (suc i) (l ∷ []) = rw (three-more i, drop-nil (suc (suc (3 * i))))
each-drop (suc i) (l ∷ s ∷ []) = rw (three-more i, drop-nil (suc (3 * i)))
each-drop (suc i) (l ∷ s ∷ h ∷ more) = rw (three-more i) (each-drop i more)

-- the first of them
pub each_take : (n : ℕ) (inputs : List ℕ) → 3 * n ≤ length inputs → inputs_each (take (3 * n) inputs) ≡ take n (inputs_each inputs)
unfolding inputs_each
each_take zero inputs h = refl
each_take (suc n) [] h = absurd (omega arith)
each_take (suc n) (l ∷ []) h = absurd (omega arith)
each_take (suc n) (l ∷ s ∷ []) h = absurd (omega arith)
each_take (suc n) (l ∷ s ∷ h₁ ∷ more) h =
    let fewer : 3 * n ≤ length more = omega arith in
    rw (three-more n, each_take n more fewer)

-- the second at a place, and those after it
pub each_at : (inputs : List ℕ) (i : ℕ) → 3 * i + 3 ≤ length inputs → drop i (inputs_each inputs) ≡ first_inputs (drop (3 * i) inputs) ∷ drop (suc i) (inputs_each inputs)
each_at inputs i h =
    let some : 3 ≤ length (drop (3 * i) inputs) = omega (arith, length-drop (3 * i) inputs) in
    let next : 3 * i + 3 ≡ 3 * suc i = omega arith in
    sym (each-drop i inputs) ∙ first-each (drop (3 * i) inputs) some
    ∙ ap (λ (l : List Inputs). first_inputs (drop (3 * i) inputs) ∷ l) (ap inputs_each (drop-drop 3 (3 * i) inputs ∙ ap (λ (n : ℕ). drop n inputs) next) ∙ each-drop (suc i) inputs)
