-- Rows pulled out of any list of chunks, empty ones included: the calls one after the other, of which only what `One` says is
-- known. `proofs/Chunks.antt` has the theorems, and there `One` is what the function's own contract ensures.
use Rattle.std.specs.Prelude.{ℕ, ◌≡◌, List, [], ◌∷◌, ◌++◌, drop, Some, None}
use Rattle.rules.specs.declared.samples.Sample.{Sample}
use Rattle.sample_rows.specs.declared.reader.SampleReader.{SampleReader}
use Rattle.sample_rows.specs.declared.reader.Pulled.{Pulled}
use Rattle.rules.specs.Chunks.{joined}
use Rattle.sheet_stages.specs.ToCome.{RowsRead}

-- rows are pulled from a place of the first chunk on: after a row the same chunk is read on, and where there is none, the next one
pub data Pulls (One : SampleReader → List ℕ → ℕ → Pulled → Type 0) : SampleReader → ℕ → List (List ℕ) → List Sample → SampleReader → Type 0 where
  none : {m : SampleReader} {at : ℕ} → Pulls One m at [] [] m
  row : {m last : SampleReader} {at : ℕ} {chunk : List ℕ} {chunks : List (List ℕ)} {rows : List Sample} (p : Pulled) (x : Sample)
      → One m chunk at p → p.found ≡ Some x → Pulls One p.reader p.next (chunk ∷ chunks) rows last → Pulls One m at (chunk ∷ chunks) (x ∷ rows) last
  next : {m last : SampleReader} {at : ℕ} {chunk : List ℕ} {chunks : List (List ℕ)} {rows : List Sample} (p : Pulled)
      → One m chunk at p → p.found ≡ None → Pulls One p.reader 0 chunks rows last → Pulls One m at (chunk ∷ chunks) rows last

-- what is left of the file from a place of the first chunk on
abbrev pub left_at : ℕ → List (List ℕ) → List ℕ
left_at at [] = []
left_at at (chunk ∷ chunks) = drop at chunk ++ joined chunks

-- rows that were pulled, and then the others
abbrev pub rows_then : List Sample → RowsRead → RowsRead
rows_then rows r = record { rows = rows ++ r.rows; verdict = r.verdict }
