-- Laws of the names of headings, and of one heading after the columns that were read. Assumes nothing.
use Prim.Native.Nat.{ℕ, suc, ◌≤◌, ◌<◌}
use mathlib.Core.Path.{◌≡◌, refl, ◌∙◌}
use mathlib.Core.Bool.{Bool, true, false, not, ◌||◌, or_assoc, or-false}
use mathlib.Core.List.{List, [], ◌∷◌, ◌++◌}
use native.Mathlib.Omega.{arith}
use Rattle.std.proofs.lemmas.Bool.Decides.{nat_tests}
use lib.Dec.{ltb, eqb}
use lib.Pointwise.{pointwise}
use lib.ListN.{length}
use borrow.Author.Tests.{lt-ltb, le-ltb, eqb-true, ltb-true, not-true}
use Rattle.rules.specs.Bytes.{same}
use Rattle.rules.specs.Answers.{accepted, refused}
use Rattle.rules.specs.SampleFile.{name_of, occurs, headings}
use Rattle.rules.proofs.Tests.{never, both}
use Rattle.rules.proofs.Checks.{passed, same-value}
use Rattle.sheet_headings.specs.declared.headings.Columns.{Columns}
use Rattle.sheet_headings.specs.Headings.{columns_of}

-- ---- the same bytes

eqb-turned : (x y : ℕ) → eqb x y ≡ eqb y x
eqb-turned x y = grind (arith, nat_tests)

-- `==` at slices says so, in either order
pub equal-same : (a b : List ℕ) → pointwise eqb a b ≡ same b a
unfolding same
equal-same [] [] = refl
equal-same [] (y ∷ b) = refl
equal-same (x ∷ a) [] = refl
equal-same (x ∷ a) (y ∷ b) = rw (eqb-turned x y, equal-same a b)

pub same_true : (a b : List ℕ) → same a b ≡ true → a ≡ b
unfolding same
same_true [] [] h = refl
same_true [] (y ∷ b) h = never h
same_true (x ∷ a) [] h = never h
same_true (x ∷ a) (y ∷ b) h =
    let t = both (eqb x y) (same a b) h in
    rw (eqb-true x y t.0, same_true a b t.1)

-- ---- a heading's place among the names

module _ (n : List ℕ) (ns : List (List ℕ)) (heading name : List ℕ) (b : Bool) (told : b ≡ pointwise eqb heading name) (is : name ≡ n) where
  e : b ≡ same n heading
  e = rw is at (told ∙ equal-same heading name)

  pub name-here : b ≡ true → 0 ≡ name_of (n ∷ ns) heading
  unfolding name_of
  name-here h = rw (← e, h)

  pub name-later : {place : ℕ} → b ≡ false → place ≡ name_of ns heading → suc place ≡ name_of (n ∷ ns) heading
  unfolding name_of
  name-later h k = rw (← e, h, k)

pub no_name : (heading : List ℕ) → 0 ≡ name_of [] heading
unfolding name_of
no_name heading = refl

-- ---- one heading, after the columns that were read

module _ (names : List (List ℕ)) (columns : List ℕ) (h : List ℕ) (hs : List (List ℕ)) where
  pub heading-blank : length h ≡ 0 → headings names columns (h ∷ hs) ≡ refused 12 1
  unfolding headings
  heading-blank z = rw (le-ltb 0 (length h) (omega arith))

  module _ (some : 0 < length h) (name : ℕ) (e : name ≡ name_of names h) where
    pub heading-unknown : length names ≤ name → headings names columns (h ∷ hs) ≡ refused 13 1
    unfolding headings
    heading-unknown k = rw (lt-ltb 0 (length h) some, ← e, le-ltb name (length names) k)

    module _ (known : name < length names) where
      pub heading-twice : occurs name columns ≡ true → headings names columns (h ∷ hs) ≡ refused 14 1
      unfolding headings
      heading-twice k = rw (lt-ltb 0 (length h) some, ← e, lt-ltb name (length names) known, k)

      pub heading-new : occurs name columns ≡ false → headings names columns (h ∷ hs) ≡ headings names (columns ++ (name ∷ [])) hs
      unfolding headings
      heading-new k = rw (lt-ltb 0 (length h) some, ← e, lt-ltb name (length names) known, k)

pub headings-end : (names : List (List ℕ)) (columns : List ℕ) → headings names columns [] ≡ accepted columns
unfolding headings
headings-end names columns = refl

-- what a heading that was accepted says
pub heading-read : (names : List (List ℕ)) (columns : List ℕ) (h : List ℕ) (a : List ℕ) → headings names columns (h ∷ []) ≡ accepted a
    → (0 < length h) × (name_of names h < length names) × (occurs (name_of names h) columns ≡ false) × (columns ++ (name_of names h ∷ []) ≡ a)
unfolding headings
heading-read names columns h a e =
    let name = name_of names h in
    let x = passed (ltb 0 (length h)) 12 1 _ a e in
    let y = passed (ltb name (length names)) 13 1 _ a x.1 in
    let z = passed (not (occurs name columns)) 14 1 _ a y.1 in
    (ltb-true 0 (length h) x.0, ltb-true name (length names) y.0, not-true (occurs name columns) z.0, same-value _ _ z.1)

-- the names of the columns, as the code compares them
pub occurs-in : (name : ℕ) (c : Columns) → eqb name 0 || eqb name c.second || eqb name c.third || eqb name c.fourth ≡ occurs name (columns_of c)
unfolding occurs
occurs-in name c = simp (or_assoc, or-false)
