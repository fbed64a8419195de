-- Usual rows, each later than the last, are counted one after the other. Assumes nothing.
use Rattle.std.specs.Prelude.{Some}
use Prim.Native.Nat.{ℕ, suc, min}
use mathlib.Core.Path.{refl, ap, ◌∙◌}
use mathlib.Core.List.{List, [], ◌++◌}
use native.Mathlib.Omega.{arith}
use lib.ListN.{drop}
use Rattle.rules.specs.declared.samples.Sample.{Sample}
use Rattle.sheet_headings.specs.declared.headings.Columns.{Columns}
use Rattle.sheet_stages.specs.declared.stage.Stage.{Stage}
use Rattle.samples.specs.declared.check.Span.{Span}
use Rattle.sheet_stages.specs.ToCome.{most_place, to_come}
use Rattle.usual_rows.specs.Usual.{UsualLater}
use Rattle.sample_rows.specs.Streamed.{lines_after}
use Rattle.samples.specs.Streamed.{spanned, CountedOn}
use Rattle.samples.proofs.CheckLaws.{found-counted}
use Rattle.sample_rows.proofs.UsualNext.{usual-on}

-- no row was counted yet
pub none-counted : (stage : Stage) (begun : List ℕ) (span : Span) (chunk : List ℕ) (at : ℕ) → CountedOn stage begun span chunk at (record { stage = stage; span = span; next = at })
none-counted stage begun span chunk at = record { rows = λ rest. refl; onward = omega arith; within = λ h. h }

-- one row more
pub row-counted : (stage : Stage) (span₀ : Span) (chunk : List ℕ) (at : ℕ) (columns : Columns) (last lines rows time next : ℕ)
    → CountedOn stage [] span₀ chunk at (record { stage = Stage.LaterRows columns last lines; span = record { rows = rows; last = time }; next = next })
    → (x : Sample) (after : ℕ) → UsualLater columns last chunk next x after
    → CountedOn stage [] span₀ chunk at (record { stage = Stage.LaterRows columns x.at (min (suc lines) most_place); span = record { rows = min (suc rows) most_place; last = x.at }; next = after })
row-counted stage span₀ chunk at columns last lines rows time next g x after u =
    let span : Span = record { rows = rows; last = time } in
    record {
      rows = λ rest. g.rows rest
          ∙ ap (spanned span) (usual-on columns last lines chunk next x after u rest)
          ∙ found-counted span (Some x) (to_come (Stage.LaterRows columns x.at (min (suc lines) most_place)) (lines_after [] (drop after chunk ++ rest)));
      onward = omega (arith, g.onward, u.right.onward);
      within = λ h. u.right.within;
    }
