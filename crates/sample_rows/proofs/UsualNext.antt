-- A usual row that is later than the last is the next row. Assumes nothing.
use Rattle.std.specs.Prelude.{Ok, Some}
use Prim.Native.Nat.{ℕ, suc, min, ◌<◌}
use mathlib.Core.Path.{◌≡◌, refl}
use mathlib.Core.List.{List, [], ◌∷◌, ◌++◌}
use lib.ListN.{drop}
use borrow.Author.Tests.{lt-ltb}
use Rattle.rules.specs.declared.samples.Sample.{Sample}
use Rattle.rules.specs.Answers.{accepted}
use Rattle.rules.specs.Lines.{Line}
use Rattle.sheet_headings.specs.declared.headings.Columns.{Columns}
use Rattle.sheet.specs.Rows.{row_in}
use Rattle.sheet_stages.specs.declared.stage.Stage.{Stage}
use Rattle.sheet_stages.specs.ToCome.{most_place, to_come, row_first}
use Rattle.usual_rows.specs.Usual.{UsualLater}
use Rattle.sample_rows.specs.Streamed.{lines_after}
use Rattle.sheet_stages.proofs.StageLaws.{later-taken}
use Rattle.sample_rows.proofs.LineLaws.{usual-told}

later-row : (columns : Columns) (last line : ℕ) (x : Sample) → last < x.at → (l : Line) (ls : List Line) (lines : ℕ) → line ≡ min (suc lines) most_place → accepted x ≡ row_in columns line l
    → to_come (Stage.LaterRows columns last lines) (l ∷ ls) ≡ row_first (Some x) (to_come (Stage.LaterRows columns x.at line) ls)
later-row columns last line x h l ls lines is e = rw (lt-ltb _ _ h) at (later-taken columns l ls last lines line is (Ok x) e)

-- what was to come is the row, and then what is to come after its LF
pub usual-on : (columns : Columns) (last lines : ℕ) (chunk : List ℕ) (at : ℕ) (x : Sample) (next : ℕ) → UsualLater columns last chunk at x next → (rest : List ℕ)
    → to_come (Stage.LaterRows columns last lines) (lines_after [] (drop at chunk ++ rest))
    ≡ row_first (Some x) (to_come (Stage.LaterRows columns x.at (min (suc lines) most_place)) (lines_after [] (drop next chunk ++ rest)))
usual-on columns last lines chunk at x next u =
    let count = min (suc lines) most_place in
    usual-told chunk at columns last lines count x next (Stage.LaterRows columns x.at count) (Some x) u.right (later-row columns last count x u.later) refl
