-- Document 01, "The sample file": a file as lines, and a line as headings or cells.
use Rattle.std.specs.Prelude.{ℕ, List, [], ◌∷◌, length, eqb, if◌then◌else◌}
use Rattle.rules.specs.Bytes.{LF, CR, comma, parts}

-- A line: its length "without the LF", by which 11 is judged, and its text, which has not the CR that is dropped.
pub record Line : Type 0 where
  pub size : ℕ
  pub text : List ℕ

-- "one CR just before it is dropped"
unfoldable pub without_cr : List ℕ → List ℕ
without_cr [] = []
without_cr (x ∷ []) = if eqb x CR then [] else x ∷ []
without_cr (x ∷ y ∷ r) = x ∷ without_cr (y ∷ r)

-- a line that "ends at LF"
abbrev pub ended : List ℕ → Line
ended s = record { size = length s; text = without_cr s }

-- a line that ends "at the end of the file"; "A last LF starts no further line"
abbrev pub at_end : List ℕ → List Line
at_end [] = []
at_end (x ∷ s) = record { size = length (x ∷ s); text = x ∷ s } ∷ []

-- the lines, of the parts between the LFs
unfoldable pub lines_of : List (List ℕ) → List Line
lines_of [] = []
lines_of (p ∷ []) = at_end p
lines_of (p ∷ q ∷ r) = ended p ∷ lines_of (q ∷ r)

unfoldable pub lines : List ℕ → List Line
lines s = lines_of (parts LF s)

-- "Comma-separated": a line's headings or cells
unfoldable pub cells_of : Line → List (List ℕ)
cells_of l = parts comma l.text
