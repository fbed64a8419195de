-- The chunks of a file, one after the other, and a row that is sought in them. Assumes nothing.
use Rattle.std.specs.Prelude.{Some}
use Prim.Native.Nat.{ℕ, zero, suc, ◌+◌, ◌-◌, ◌≤◌, ◌<◌, min}
use mathlib.Core.Path.{◌≡◌, refl, sym, ap, ◌∙◌}
use mathlib.Core.List.{List, [], ◌∷◌, ◌++◌}
use native.Mathlib.Omega.{arith}
use lib.ListN.{length, take, drop, take-append-drop, length-take, length-drop}
use lib.Seq.{drop-drop}
use Rattle.rules.specs.declared.samples.Sample.{Sample}
use Rattle.sample_rows.specs.declared.reader.SampleReader.{SampleReader}
use Rattle.sample_rows.specs.declared.reader.Pulled.{Pulled}
use Rattle.samples.specs.declared.check.SampleCheck.{SampleCheck}
use Rattle.sheet_stages.specs.ToCome.{RowsRead, row_first}
use Rattle.sample_rows.specs.Streamed.{yet_to_come, PulledRight}
use Rattle.samples.specs.Streamed.{checked_with}
use Rattle.samples.proofs.CheckLaws.{pull-ahead}
use Rattle.test_chunks.specs.declared.Sought.{Sought}
use Rattle.test_chunks.specs.Answers.{row_at}
use Rattle.test_chunks.specs.Seeking.{chunk_end, sought_in}

-- ---- where a chunk ends

module _ (len at size : ℕ) (inside : at < len) where
  pub end-ahead : at < chunk_end len at size
  unfolding chunk_end
  end-ahead = omega arith

  pub end-within : chunk_end len at size ≤ len
  unfolding chunk_end
  end-within = omega arith

  pub one_byte : size ≡ 0 → at + 1 ≡ chunk_end len at size
  unfolding chunk_end
  one_byte h = omega arith

  pub full-chunk : (size ≡ 0 → ⊥) → size < len - at → at + size ≡ chunk_end len at size
  unfolding chunk_end
  full-chunk n h = omega (arith, n)

  pub last-chunk : (size ≡ 0 → ⊥) → len - at ≤ size → len ≡ chunk_end len at size
  unfolding chunk_end
  last-chunk n h = omega (arith, n)

-- ---- the bytes of a chunk from a place on, and those after it

pieces : (next len : ℕ) (s : List ℕ) → next ≤ len → drop next (take len s) ++ drop len s ≡ drop next s
pieces zero len s h = take-append-drop len s
pieces (suc next) zero s h = absurd (omega arith)
pieces (suc next) (suc len) [] h = refl
pieces (suc next) (suc len) (x ∷ s) h = pieces next len s (omega arith)

abbrev pub chunk_of : ℕ → ℕ → List ℕ → List ℕ
chunk_of start end file = take (end - start) (drop start file)

module _ (file : List ℕ) (start end : ℕ) (ahead : start < end) (within : end ≤ length file) where
  pub chunk-left : (next : ℕ) → start + next ≤ end → drop next (chunk_of start end file) ++ drop end file ≡ drop (start + next) file
  chunk-left next h =
      let e : start + (end - start) ≡ end = omega arith in
      let k : next ≤ end - start = omega arith in
      ap (λ (n : ℕ). drop next (chunk_of start end file) ++ drop n file) (sym e)
      ∙ ap (λ (l : List ℕ). drop next (chunk_of start end file) ++ l) (sym (drop-drop (end - start) start file))
      ∙ pieces next (end - start) (drop start file) k
      ∙ drop-drop next start file

  pub chunk-length : length (chunk_of start end file) ≡ end - start
  chunk-length =
      let t : length (chunk_of start end file) ≡ min (end - start) (length (drop start file)) = length-take (end - start) (drop start file) in
      let d : length (drop start file) ≡ length file - start = length-drop start file in
      omega arith

  -- a chunk that is fed, with the rest of the file after it
  pub chunk-fed : (c d : SampleCheck) → ((rest : List ℕ) → checked_with c (chunk_of start end file ++ rest) ≡ checked_with d rest) → checked_with c (drop start file) ≡ checked_with d (drop end file)
  chunk-fed c d fed =
      let e : start + 0 ≡ start = omega arith in
      ap (λ (n : ℕ). checked_with c (drop n file)) (sym e) ∙ ap (checked_with c) (sym (chunk-left 0 (omega arith))) ∙ fed (drop end file)

  module _ (next : ℕ) (inside : start + next < end) (m : SampleReader) (p : Pulled) (right : PulledRight m (chunk_of start end file) next p) where
    pub places : (next < p.next) × (start + p.next ≤ end)
    places =
        let l : length (chunk_of start end file) ≡ end - start = chunk-length in
        let a : next < p.next = pull-ahead m (chunk_of start end file) next p right (omega arith) in
        let w : p.next ≤ length (chunk_of start end file) = right.within in
        (a, omega arith)

    pub row-pulled : (s t : Sought) → ((rows : RowsRead) → sought_in s (row_first p.found rows) ≡ sought_in t rows)
        → sought_in s (yet_to_come m (drop (start + next) file)) ≡ sought_in t (yet_to_come p.reader (drop (start + p.next) file))
    row-pulled s t step =
        let rest = drop end file in
        ap (λ (l : List ℕ). sought_in s (yet_to_come m l)) (sym (chunk-left next (omega arith)))
        ∙ ap (sought_in s) (right.rows rest)
        ∙ step (yet_to_come p.reader (drop p.next (chunk_of start end file) ++ rest))
        ∙ ap (λ (l : List ℕ). sought_in t (yet_to_come p.reader l)) (chunk-left p.next places.1)

-- ---- the row that is sought

module _ (x : Sample) where
  pub row-asked : (before : ℕ) → before ≡ 0 → (rows : RowsRead) → sought_in (Sought.After before) (row_first (Some x) rows) ≡ sought_in (Sought.Came x) rows
  unfolding row_at
  row-asked zero h rows = refl
  row-asked (suc before) h rows = absurd (omega arith)

  pub row_before : (before : ℕ) → (before ≡ 0 → ⊥) → (rows : RowsRead) → sought_in (Sought.After before) (row_first (Some x) rows) ≡ sought_in (Sought.After (before - 1)) rows
  unfolding row_at
  row_before zero h rows = absurd (h refl)
  row_before (suc before) h rows = let e : before ≡ suc before - 1 = omega arith in ap (λ (n : ℕ). row_at n rows.rows) e
