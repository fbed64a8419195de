-- A row's line that is put in two parts, and what is known where it was put and where it was not. Assumes nothing.
use Rattle.std.specs.Prelude.{if◌then◌else◌}
use Prim.Native.Nat.{ℕ, zero, suc, ◌+◌, ◌^◌, ◌≤◌, ◌<◌}
use mathlib.Core.Path.{◌≡◌, refl, ◌∙◌}
use mathlib.Core.Bool.{Bool, true, false}
use mathlib.Core.List.{List, [], ◌∷◌}
use native.Mathlib.Omega.{arith}
use lib.Dec.{leb}
use lib.ListN.{length, take, drop, length-take, take-append-drop}
use borrow.Author.Tests.{leb-false}
use Rattle.rules.specs.Bytes.{comma_line}
use Rattle.rules.proofs.LittleEndian.{AllBelow}
use Rattle.decimals.specs.Commaed.{commaed}
use Rattle.texts.specs.Placed.{placed, roomy, PutAt}
use Rattle.texts.proofs.Texts.{both-placed}
use Rattle.decimals.proofs.Lengths.{commaed-most, comma-line-most}
use Rattle.texts.proofs.PutAt.{put-there}
use Rattle.row_texts.specs.RowLines.{LineAt}
use Rattle.row_texts.proofs.Kept.{ends-length, halves, halves-length}

-- ---- the lengths of its parts

below-take : (n k : ℕ) (xs : List ℕ) → AllBelow n xs → AllBelow n (take k xs)
below-take n zero xs h = tt
below-take n (suc k) [] h = tt
below-take n (suc k) (x ∷ xs) h = (h.0, below-take n k xs h.1)

below-drop : (n k : ℕ) (xs : List ℕ) → AllBelow n xs → AllBelow n (drop k xs)
below-drop n zero xs h = h
below-drop n (suc k) [] h = tt
below-drop n (suc k) (x ∷ xs) h = below-drop n k xs h.1

module _ (row : List ℕ) (thirteen : length row ≡ 13) where
  module _ (below : AllBelow (2 ^ 64) row) where
    pub first-most : length (commaed (take 8 row)) ≤ 168
    first-most = omega (arith, commaed-most (take 8 row) (below-take (2 ^ 64) 8 row below), length-take 8 row, thirteen)

    pub ends-most : length (comma_line (drop 8 row)) ≤ 105
    ends-most =
        let five = ends-length row thirteen in
        omega (arith, comma-line-most (drop 8 row) (omega (arith, five)) (below-drop (2 ^ 64) 8 row below), five)

  -- ---- one part after the other

  pub two-parts : (out b b' : List ℕ) (at last end : ℕ) → at + length (comma_line row) ≤ length out → last ≡ at + length (commaed (take 8 row)) → b ≡ placed out at (commaed (take 8 row))
      → end ≡ last + length (comma_line (drop 8 row)) → b' ≡ placed b last (comma_line (drop 8 row)) → LineAt row at out (record { kept = last; end = end }) b'
  two-parts out b b' at last end room l first e second =
      let long = halves-length row thirteen in
      let whole = both-placed out (commaed (take 8 row)) (comma_line (drop 8 row)) (comma_line row) b b' at last (omega (arith, long, room)) l first second (halves row thirteen) in
      record { kept-is = l; put = put-there (length (comma_line row)) (comma_line row) at out room end b' (omega (arith, e, l, long)) whole }

-- ---- whether it was put

module _ (text : List ℕ) (at : ℕ) (lent : List ℕ) (told : ℕ) (left : List ℕ) where
  abbrev By : Bool → Type 0
  By b = (told ≡ at + length (if b then text else [])) × (left ≡ placed lent at (if b then text else []))

  -- a text of some bytes that ends where it begins has no room
  pub not-put : PutAt (length text) text at lent told left → 1 ≤ length text → told ≡ at → (left ≡ lent) × (length lent < at + length text)
  unfolding roomy
  not-put p some same = go (leb (at + length text) (length lent)) refl p
    where
      go : (b : Bool) → leb (at + length text) (length lent) ≡ b → By b → (left ≡ lent) × (length lent < at + length text)
      go true e q = absurd (omega (arith, q.0, some, same))
      go false e q = (q.1 ∙ take-append-drop at lent, leb-false (at + length text) (length lent) e)

  -- and any other was put
  pub some-put : PutAt (length text) text at lent told left → (told ≡ at → ⊥) → (told ≡ at + length text) × (left ≡ placed lent at text)
  unfolding roomy
  some-put p other = go (leb (at + length text) (length lent)) p
    where
      go : (b : Bool) → By b → (told ≡ at + length text) × (left ≡ placed lent at text)
      go true q = q
      go false q = absurd (other (omega (arith, q.0)))
