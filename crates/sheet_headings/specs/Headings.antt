-- Document 01, "The sample file": what a heading line comes to in code.
use Rattle.std.specs.Prelude.{ℕ, List, [], ◌∷◌, Ok, Err, Result}
use Rattle.rules.specs.Answers.{Answer, accepted, refusal_of}
use Rattle.sheet_headings.specs.declared.headings.Columns.{Columns}
use Rattle.rules.specs.declared.answers.Refusal.{Refusal}

-- "`t` first": the name of each column, by its place among the names
abbrev pub columns_of : Columns → List ℕ
columns_of c = 0 ∷ c.second ∷ c.third ∷ c.fourth ∷ []

abbrev pub headed_of : Result Columns Refusal → Answer (List ℕ)
headed_of (Ok c) = accepted (columns_of c)
headed_of (Err r) = refusal_of r
