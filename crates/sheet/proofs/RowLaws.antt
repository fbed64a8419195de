-- The cells of a row, left to right, and the values under their headings. Assumes nothing.
use Rattle.std.specs.Prelude.{Ok, Err, Result}
use Prim.Native.Nat.{ℕ, suc, ◌≤◌, ◌<◌}
use mathlib.Core.Path.{◌≡◌, refl, ap, subst, ◌∙◌}
use mathlib.Core.List.{List, [], ◌∷◌}
use native.Mathlib.Omega.{arith}
use borrow.Author.Tests.{eq-eqb, ne_eqb, le-leb, lt-leb}
use Rattle.rules.specs.declared.samples.Sample.{Sample}
use Rattle.rules.specs.Numbers.{tab}
use Rattle.rules.specs.Answers.{Answer, accepted, refused, refusal_of, result_of, ◌>>=◌}
use Rattle.rules.specs.SampleFile.{sample_sheet, cell, cell_values, value_under}
use Rattle.sheet_headings.specs.declared.headings.Columns.{Columns}
use Rattle.sheet_headings.specs.Headings.{columns_of}
use Rattle.sheet.specs.Rows.{power_columns, sample_under, row_of_values, row_of_cells}
use Rattle.rules.specs.declared.answers.Refusal.{Refusal}

-- ---- the value of the first column after the time's that has a name

module _ (name : ℕ) (c : Columns) (x y z : ℕ) where
  abbrev under : ℕ
  under = value_under name (power_columns c) (x ∷ y ∷ z ∷ [])

  pub under-second : name ≡ c.second → x ≡ under
  unfolding value_under
  under-second a = rw (eq-eqb name c.second a)

  module _ (a : name ≡ c.second → ⊥) where
    pub under-third : name ≡ c.third → y ≡ under
    unfolding value_under
    under-third b = rw (ne_eqb name c.second a, eq-eqb name c.third b)

    module _ (b : name ≡ c.third → ⊥) where
      pub under-fourth : name ≡ c.fourth → z ≡ under
      unfolding value_under
      under-fourth d = rw (ne_eqb name c.second a, ne_eqb name c.third b, eq-eqb name c.fourth d)

      pub under_none : (name ≡ c.fourth → ⊥) → 0 ≡ under
      unfolding value_under
      under_none d = rw (ne_eqb name c.second a, ne_eqb name c.third b, ne_eqb name c.fourth d)

-- ---- the values of a row, each under its heading

module _ (c : Columns) (at x y z : ℕ) where
  abbrev vs : List ℕ
  vs = at ∷ x ∷ y ∷ z ∷ []

  time-under : value_under 0 (columns_of c) vs ≡ at
  unfolding value_under
  time-under = refl

  -- a name other than the time's is that of no column before the others
  power-under : (k : ℕ) → value_under (suc k) (power_columns c) (x ∷ y ∷ z ∷ []) ≡ value_under (suc k) (columns_of c) vs
  unfolding value_under
  power-under k = rw (ne_eqb (suc k) 0 (λ e. omega arith)) refl

  abbrev ValueIs : ℕ → ℕ → Type 0
  ValueIs name value = value ≡ value_under name (power_columns c) (x ∷ y ∷ z ∷ [])

  pub under-headings : (load solar sheddable : ℕ) → ValueIs 1 load → ValueIs 2 solar → ValueIs 3 sheddable
      → record { at = at; load = load; solar = solar; sheddable = sheddable } ≡ sample_under c vs
  unfolding sample_under tab
  under-headings load solar sheddable l o s = rw (l, o, s, power-under 0, power-under 1, power-under 2, time-under)

-- ---- 20, of the values

module _ (c : Columns) (line : ℕ) (vs : List ℕ) (r : Sample) (is : r ≡ sample_under c vs) where
  pub above-load : r.load < r.sheddable → refused 20 line ≡ row_of_values c line vs
  unfolding row_of_values sample_under tab sample_sheet
  above-load h = rw (lt-leb _ _ (subst (λ (x : Sample). x.load < x.sheddable) is h))

  pub row-whole : r.sheddable ≤ r.load → accepted r ≡ row_of_values c line vs
  unfolding row_of_values sample_under tab sample_sheet
  row-whole h = ap accepted is ∙ rw (le-leb _ _ (subst (λ (x : Sample). x.sheddable ≤ x.load) is h))

-- ---- 18 and 19, of the cells

-- values put in front of values, or the first refusal
flat : (w x y z : Answer ℕ) (f : List ℕ → Answer Sample)
    → ((w >>= λ (a : ℕ). ((x >>= λ (b : ℕ). ((y >>= λ (c : ℕ). ((z >>= λ (d : ℕ). (accepted [] >>= λ (vs : List ℕ). accepted (d ∷ vs)))
    >>= λ (vs : List ℕ). accepted (c ∷ vs))) >>= λ (vs : List ℕ). accepted (b ∷ vs))) >>= λ (vs : List ℕ). accepted (a ∷ vs))) >>= f)
    ≡ (w >>= λ (a : ℕ). (x >>= λ (b : ℕ). (y >>= λ (c : ℕ). (z >>= λ (d : ℕ). f (a ∷ b ∷ c ∷ d ∷ [])))))
flat (refused n p) x y z f = refl
flat (accepted a) (refused n p) y z f = refl
flat (accepted a) (accepted b) (refused n p) z f = refl
flat (accepted a) (accepted b) (accepted c) (refused n p) f = refl
flat (accepted a) (accepted b) (accepted c) (accepted d) f = refl

module _ (c : Columns) (line : ℕ) (first second third fourth : List ℕ) where
  abbrev limits : List ℕ
  limits = sample_sheet.limits

  abbrev whole : Answer Sample
  whole = row_of_cells c line (first ∷ second ∷ third ∷ fourth ∷ [])

  pub one_by_one : whole ≡ (cell line limits 0 first >>= λ (a : ℕ). (cell line limits c.second second >>= λ (x : ℕ). (cell line limits c.third third >>= λ (y : ℕ).
      (cell line limits c.fourth fourth >>= λ (z : ℕ). row_of_values c line (a ∷ x ∷ y ∷ z ∷ [])))))
  unfolding row_of_cells cell_values
  one_by_one = flat (cell line limits 0 first) (cell line limits c.second second) (cell line limits c.third third) (cell line limits c.fourth fourth) (row_of_values c line)

  -- what a cell comes to, as the rules have it
  abbrev Read : Result ℕ Refusal → ℕ → List ℕ → Type 0
  Read v name part = result_of v ≡ cell line limits name part

  pub wrong_first : (v : Result ℕ Refusal) (r : Refusal) → Read v 0 first → v ≡ Err r → refusal_of r ≡ whole
  wrong_first v r is e = rw (one_by_one, ← is, e)

  module _ (u : Result ℕ Refusal) (a : ℕ) (first-is : Read u 0 first) (a-is : u ≡ Ok a) where
    pub wrong_second : (v : Result ℕ Refusal) (r : Refusal) → Read v c.second second → v ≡ Err r → refusal_of r ≡ whole
    wrong_second v r is e = rw (one_by_one, ← first-is, a-is, ← is, e)

    module _ (w : Result ℕ Refusal) (x : ℕ) (second_is : Read w c.second second) (x-is : w ≡ Ok x) where
      pub wrong-third : (v : Result ℕ Refusal) (r : Refusal) → Read v c.third third → v ≡ Err r → refusal_of r ≡ whole
      wrong-third v r is e = rw (one_by_one, ← first-is, a-is, ← second_is, x-is, ← is, e)

      module _ (q : Result ℕ Refusal) (y : ℕ) (third-is : Read q c.third third) (y-is : q ≡ Ok y) where
        pub wrong-fourth : (v : Result ℕ Refusal) (r : Refusal) → Read v c.fourth fourth → v ≡ Err r → refusal_of r ≡ whole
        wrong-fourth v r is e = rw (one_by_one, ← first-is, a-is, ← second_is, x-is, ← third-is, y-is, ← is, e)

        pub all-four : (v : Result ℕ Refusal) (z : ℕ) → Read v c.fourth fourth → v ≡ Ok z → row_of_values c line (a ∷ x ∷ y ∷ z ∷ []) ≡ whole
        all-four v z is z-is = rw (one_by_one, ← first-is, a-is, ← second_is, x-is, ← third-is, y-is, ← is, z-is)
