-- What a text that is put into a lent buffer owes, from the code's two answers; and what a caller with room enough has of a row. Assumes nothing.
use Rattle.std.specs.Prelude.{Ok, Err, Result}
use Prim.Native.Nat.{ℕ, ◌≤◌, ◌<◌}
use mathlib.Core.Path.{◌≡◌}
use mathlib.Core.List.{List, ◌++◌}
use lib.ListN.{length, drop}
use borrow.Author.Tests.{le-leb, lt-leb}
use Rattle.rules.specs.declared.answers.Refusal.TheVariants.{RowBuffer}
use Rattle.rules.specs.declared.run.Row.{Row}
use Rattle.rules.specs.Answers.{accepted, result_of}
use Rattle.rules.specs.Row.{row_text}
use Rattle.texts.specs.Placed.{Front}
use Rattle.rows.specs.Written.{text_written, TextPut, RowPut}
use Rattle.rules.specs.declared.answers.Refusal.{Refusal}

module _ (text : List ℕ) (lent : List ℕ) where
  pub text-refused : length lent < 256 → TextPut text lent (Err RowBuffer) lent
  unfolding text_written
  text-refused h = let e = lt-leb 256 (length lent) h in record { answers = rw e; leaves = rw e }

  pub text-written : (told : ℕ) (left : List ℕ) → 256 ≤ length lent → Front lent text told left → TextPut text lent (Ok told) left
  unfolding text_written
  text-written told left h f =
      let e = le-leb 256 (length lent) h in
      record { answers = rw (e, f.0); leaves = rw e f.1 }

  -- what a caller with room enough has
  pub text-put : (answer : Result ℕ Refusal) (left : List ℕ) → 256 ≤ length lent → TextPut text lent answer left
      → (result_of answer ≡ accepted (length text)) × (left ≡ text ++ drop (length text) lent)
  unfolding text_written
  text-put answer left h p = let e = le-leb 256 (length lent) h in (rw e at p.answers, rw e at p.leaves)

-- and of a row
pub row_put : (r : Row) (lent : List ℕ) (answer : Result ℕ Refusal) (left : List ℕ) → 256 ≤ length lent → RowPut r lent answer left
    → (result_of answer ≡ accepted (length (row_text r))) × (left ≡ row_text r ++ drop (length (row_text r)) lent)
row_put r = text-put (row_text r)
