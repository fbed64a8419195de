-- Document 01, "a second answers the row's length, LF counted, and bytes past the row stay"; and so with each other line that the run program prints.
use Rattle.std.specs.Prelude.{ℕ, List, ◌++◌, ◌≡◌, length, drop, leb, Result}
use Rattle.rules.specs.declared.run.Row.{Row}
use Rattle.rules.specs.Answers.{Answer, accepted, refused, need, ◌>>◌, result_of}
use Rattle.rules.specs.Row.{row_text}
use Rattle.rules.specs.declared.answers.Refusal.{Refusal}

-- the text's bytes, where the buffer has room for any line
unfoldable pub text_written : List ℕ → ℕ → Answer (List ℕ)
text_written text room = do
  need (leb 256 room) 26 0
  accepted text

abbrev pub length_of : Answer (List ℕ) → Answer ℕ
length_of (accepted text) = accepted (length text)
length_of (refused number place) = refused number place

-- the text at the buffer's front, and the lent bytes past it
abbrev pub buffer_with : List ℕ → Answer (List ℕ) → List ℕ
buffer_with lent (accepted text) = text ++ drop (length text) lent
buffer_with lent (refused number place) = lent

-- What a text that is put into a buffer owes: the answer, and the buffer as it is left.
pub record TextPut (text : List ℕ) (lent : List ℕ) (answer : Result ℕ Refusal) (left : List ℕ) : Type 0 where
  pub answers : result_of answer ≡ length_of (text_written text (length lent))
  pub leaves : left ≡ buffer_with lent (text_written text (length lent))

-- a row is such a text
abbrev pub RowPut : Row → List ℕ → Result ℕ Refusal → List ℕ → Type 0
RowPut row = TextPut (row_text row)
