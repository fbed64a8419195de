-- The four cells of a row, read one after the other: 11, 17, and then the cells. Assumes nothing.
use Prim.Native.Nat.{ℕ, suc, ◌+◌, ◌≤◌, ◌<◌}
use mathlib.Core.Path.{◌≡◌, refl, sym, ap, ◌∙◌}
use mathlib.Core.List.{List, [], ◌∷◌}
use native.Mathlib.Omega.{arith}
use native.Mathlib.Decide.{dec_lt}
use lib.ListN.{length, drop}
use borrow.Author.Tests.{le-leb, lt-leb, ne_eqb}
use Rattle.byte_search.specs.Bytes.{index_of}
use Rattle.rules.specs.declared.samples.Sample.{Sample}
use Rattle.rules.specs.Bytes.{comma, parts}
use Rattle.rules.specs.Lines.{cells_of}
use Rattle.rules.specs.Answers.{Answer, accepted, refused, ◌>>=◌}
use Rattle.rules.specs.SampleFile.{sample_sheet, row_values, cell_values}
use Rattle.sheet_headings.specs.declared.headings.Columns.{Columns}
use Rattle.sheet_headings.specs.Headings.{columns_of}
use Rattle.sheet_headings.specs.Cells.{cell_from}
use Rattle.sheet.specs.Rows.{row_in, row_of_values, row_of_cells}
use Rattle.sheet_headings.proofs.PartsAt.{index-le, part-first, part-last}
use Rattle.sheet_headings.proofs.CellLaws.{cell-within, cell-first, cell-last}

-- there is always a part
some-part : (c : ℕ) (s : List ℕ) → 0 < length (parts c s)
some-part c s = go (dec_lt (index_of c s) (length s))
  where
    go : Dec (index_of c s < length s) → 0 < length (parts c s)
    go (yes h) = rw (part-first c s h) (omega arith)
    go (no h) = let e : index_of c s ≡ length s = omega (arith, index-le c s, h) in rw (part-last c s e) (omega arith)

-- ---- the part that was read at a place

module _ (text : List ℕ) (at : ℕ) (part : List ℕ) (is : part ≡ cell_from text at) where
  pub read-within : at ≤ length text → at + length part ≤ length text
  read-within h = rw is (cell-within text at h)

  read-last : length text ≤ at + length part → parts comma (drop at text) ≡ part ∷ []
  read-last h = cell-last text at (rw is at h) ∙ ap (λ (p : List ℕ). p ∷ []) (sym is)

  read_more : at + length part < length text → parts comma (drop at text) ≡ part ∷ parts comma (drop (at + length part + 1) text)
  read_more h = cell-first text at (rw is at h) ∙ ap (λ (p : List ℕ). p ∷ parts comma (drop (at + length p + 1) text)) (sym is)

-- ---- the row

two_steps : {A B C : Type 0} (a : Answer A) (f : A → Answer B) (g : B → Answer C) → ((a >>= f) >>= g) ≡ (a >>= λ (x : A). (f x >>= g))
two_steps (accepted a) f g = refl
two_steps (refused n p) f g = refl

module _ (columns : Columns) (line size : ℕ) (text : List ℕ) where
  abbrev whole : Answer Sample
  whole = row_in columns line (record { size = size; text = text })

  pub line-long : 512 < size → refused 11 line ≡ whole
  unfolding row_values
  line-long h = rw (lt-leb size 512 h)

  module _ (short : size ≤ 512) where
    -- 17: "row's cell count differs from the headings"
    other-count : (length (parts comma text) ≡ 4 → ⊥) → refused 17 line ≡ whole
    unfolding row_values cells_of
    other-count h = rw (le-leb size 512 short, ne_eqb (length (parts comma text)) 4 h)

    pub four : (a b c d : List ℕ) → parts comma text ≡ a ∷ b ∷ c ∷ d ∷ [] → row_of_cells columns line (a ∷ b ∷ c ∷ d ∷ []) ≡ whole
    unfolding row_values cells_of row_of_cells row_of_values sample_sheet
    four a b c d e = rw (le-leb size 512 short, e) (sym (two_steps (cell_values line sample_sheet.limits (columns_of columns) (a ∷ b ∷ c ∷ d ∷ [])) _ _))

    module _ (a : List ℕ) (a-is : a ≡ cell_from text 0) where
      pub one_cell : length text ≤ length a → refused 17 line ≡ whole
      one_cell h =
          let k : length text ≤ 0 + length a = omega arith in
          other-count (λ n. let e : length (parts comma text) ≡ 1 = ap length (read-last text 0 a a-is k) in omega arith)

      after_one : length a < length text → parts comma text ≡ a ∷ parts comma (drop (length a + 1) text)
      after_one h =
          let k : 0 + length a < length text = omega arith in
          let e : 0 + length a + 1 ≡ length a + 1 = omega arith in
          read_more text 0 a a-is k ∙ ap (λ (n : ℕ). a ∷ parts comma (drop n text)) e

      module _ (more : length a < length text) (b : List ℕ) (b-is : b ≡ cell_from text (length a + 1)) where
        two : length text ≤ length a + 1 + length b → parts comma text ≡ a ∷ b ∷ []
        two h = after_one more ∙ ap (λ (ps : List (List ℕ)). a ∷ ps) (read-last text (length a + 1) b b-is h)

        pub two_cells : length text ≤ length a + 1 + length b → refused 17 line ≡ whole
        two_cells h = other-count (λ n. let e : length (parts comma text) ≡ 2 = ap length (two h) in omega arith)

        module _ (more' : length a + 1 + length b < length text) (c : List ℕ) (c-is : c ≡ cell_from text (length a + 1 + length b + 1)) where
          after_two : parts comma text ≡ a ∷ b ∷ parts comma (drop (length a + 1 + length b + 1) text)
          after_two = after_one more ∙ ap (λ (ps : List (List ℕ)). a ∷ ps) (read_more text (length a + 1) b b-is more')

          abbrev third-end : ℕ
          third-end = length a + 1 + length b + 1 + length c

          pub three-cells : length text ≤ third-end → refused 17 line ≡ whole
          three-cells h =
              other-count (λ n. let e : length (parts comma text) ≡ 3 = ap length (after_two ∙ ap (λ (ps : List (List ℕ)). a ∷ b ∷ ps) (read-last text _ c c-is h)) in omega arith)

          module _ (more'' : third-end < length text) (d : List ℕ) (d-is : d ≡ cell_from text (third-end + 1)) where
            after-three : parts comma text ≡ a ∷ b ∷ c ∷ parts comma (drop (third-end + 1) text)
            after-three = after_two ∙ ap (λ (ps : List (List ℕ)). a ∷ b ∷ ps) (read_more text _ c c-is more'')

            pub more-cells : third-end + 1 + length d < length text → refused 17 line ≡ whole
            more-cells h =
                other-count (λ n.
                let rest = drop (third-end + 1 + length d + 1) text in
                let e : length (parts comma text) ≡ suc (suc (suc (suc (length (parts comma rest))))) = ap length (after-three ∙ ap (λ (ps : List (List ℕ)). a ∷ b ∷ c ∷ ps) (read_more text _ d d-is h)) in
                let s : 0 < length (parts comma rest) = some-part comma rest in
                omega arith)

            pub four-cells : length text ≤ third-end + 1 + length d → row_of_cells columns line (a ∷ b ∷ c ∷ d ∷ []) ≡ whole
            four-cells h = four a b c d (after-three ∙ ap (λ (ps : List (List ℕ)). a ∷ b ∷ c ∷ ps) (read-last text _ d d-is h))
