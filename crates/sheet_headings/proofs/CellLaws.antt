-- The cells of a line one after the other, each from where it starts. Assumes nothing.
use Prim.Native.Nat.{ℕ, suc, ◌+◌, ◌-◌, ◌≤◌, ◌<◌}
use mathlib.Core.Path.{◌≡◌, sym, ap, ◌∙◌}
use mathlib.Core.List.{List, [], ◌∷◌}
use native.Mathlib.Omega.{arith}
use native.Mathlib.Decide.{dec_lt}
use native.Mathlib.Nat.{add-sub_cancel_left}
use lib.ListN.{length, take, drop, get_or, length-drop, drop_of_length-le}
use lib.Seq.{take-length, drop-drop, length-take-le}
use Rattle.byte_search.specs.Bytes.{index_of, slice}
use Rattle.rules.specs.Bytes.{comma, parts}
use Rattle.sheet_headings.specs.Cells.{cell_from}
use Rattle.sheet_headings.proofs.PartsAt.{index-le, part-first, part-last}

-- the first part goes up to the first byte c
first_part : (c : ℕ) (s : List ℕ) → get_or (parts c s) 0 [] ≡ take (index_of c s) s
first_part c s = go (dec_lt (index_of c s) (length s))
  where
    go : Dec (index_of c s < length s) → get_or (parts c s) 0 [] ≡ take (index_of c s) s
    go (yes h) = rw (part-first c s h)
    go (no h) =
        let e : index_of c s ≡ length s = omega (arith, index-le c s, h) in
        rw (part-last c s e, e, take-length s)

module _ (l : List ℕ) (at : ℕ) where
  cell-is : cell_from l at ≡ take (index_of comma (drop at l)) (drop at l)
  unfolding cell_from
  cell-is = first_part comma (drop at l)

  cell-length : length (cell_from l at) ≡ index_of comma (drop at l)
  cell-length = ap length cell-is ∙ length-take-le (index_of comma (drop at l)) (drop at l) (index-le comma (drop at l))

  pub cell-within : at ≤ length l → at + length (cell_from l at) ≤ length l
  cell-within h = omega (arith, cell-length, index-le comma (drop at l), length-drop at l)

  -- a cell that ends with the line is the last
  pub cell-last : length l ≤ at + length (cell_from l at) → parts comma (drop at l) ≡ cell_from l at ∷ []
  cell-last h =
      let e : index_of comma (drop at l) ≡ length (drop at l) = omega (arith, cell-length, index-le comma (drop at l), length-drop at l) in
      part-last comma (drop at l) e ∙ ap (λ (c : List ℕ). c ∷ []) (sym (cell-is ∙ rw (e, take-length (drop at l))))

  -- after any other there is a comma, and then the others
  pub cell-first : at + length (cell_from l at) < length l
      → parts comma (drop at l) ≡ cell_from l at ∷ parts comma (drop (at + length (cell_from l at) + 1) l)
  cell-first h =
      let b : index_of comma (drop at l) < length (drop at l) = omega (arith, cell-length, length-drop at l) in
      let e : at + suc (index_of comma (drop at l)) ≡ at + length (cell_from l at) + 1 = omega (arith, cell-length) in
      let q : drop (suc (index_of comma (drop at l))) (drop at l) ≡ drop (at + length (cell_from l at) + 1) l =
      drop-drop (suc (index_of comma (drop at l))) at l ∙ ap (λ (n : ℕ). drop n l) e in
      part-first comma (drop at l) b ∙ (λ i. sym cell-is i ∷ parts comma (q i))

  -- the code's own reading of it: from `at` to the next comma, which is searched up to the line's end
  pub cell-to : take (at + index_of comma (slice at (length l) l) - at) (drop at l) ≡ cell_from l at
  unfolding slice
  cell-to = rw (take-length l, add-sub_cancel_left, cell-is)

  -- past the line's end there is nothing
  pub cell-past : length l < at → [] ≡ cell_from l at
  unfolding index_of
  cell-past h = let k : length l ≤ at = omega arith in sym (cell-is ∙ rw (drop_of_length-le l k))

  -- it is that part of the line, of its own length
  pub cell-whole : cell_from l at ≡ take (length (cell_from l at)) (drop at l)
  cell-whole = cell-is ∙ ap (λ (n : ℕ). take n (drop at l)) (sym cell-length)
