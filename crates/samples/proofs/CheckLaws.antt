-- The rows of a sheet, counted as they are pulled. Assumes nothing.
use Rattle.std.specs.Prelude.{Ok, Err, Some, None, Result, Option, is_some}
use Prim.Native.Nat.{ℕ, suc, min, ◌+◌, ◌≤◌, ◌<◌}
use mathlib.Core.Path.{◌≡◌, refl, sym, ap, ◌∙◌}
use mathlib.Core.Bool.{Bool, true, false}
use mathlib.Core.List.{List, [], ◌∷◌, ◌++◌, append-nil}
use native.Mathlib.Omega.{arith}
use lib.ListN.{length}
use Rattle.rules.specs.declared.samples.Sample.{Sample}
use Rattle.rules.specs.Answers.{Answer, accepted, refused, refusal_of, judged, ◌>>=◌, ◌>>◌, result_of}
use Rattle.rules.specs.SampleFile.{sample_file}
use Rattle.rules.specs.Sizing.{sample_check}
use Rattle.samples.specs.declared.check.Span.{Span}
use Rattle.sheet_stages.specs.ToCome.{most_place, placed, RowsRead, file_rows, row_first}
use Rattle.sample_rows.specs.declared.reader.SampleReader.{SampleReader}
use Rattle.sample_rows.specs.declared.reader.Pulled.{Pulled}
use Rattle.samples.specs.declared.check.SampleCheck.{SampleCheck}
use Rattle.rules.specs.declared.answers.Refusal.{Refusal}
use Rattle.sample_rows.specs.Streamed.{yet_to_come, PulledRight, ending_of}
use Rattle.samples.specs.Streamed.{last_time, span_of, sheet_span, one_more, span_after, spanned, checked_with}
use Rattle.sheet_stages.proofs.PlaceBound.{stays-bind, file-place}
use Rattle.sample_rows.proofs.LineLaws.{file-answer}

-- a row that was found is counted before those that follow it
pub found-counted : (s : Span) (f : Option Sample) (r : RowsRead) → spanned s (row_first f r) ≡ spanned (one_more s f) r
unfolding span_after
found-counted s (Some x) r = refl
found-counted s None r = refl

-- from nothing, what is counted is the number of rows and the time of the last
counted : (rows : List Sample) (n last : ℕ) → n ≤ most_place → span_after (record { rows = n; last = last }) rows ≡ record { rows = min (n + length rows) most_place; last = last_time last rows }
unfolding span_after last_time
counted [] n last h = let e : n ≡ min (n + 0) most_place = omega arith in λ i. record { rows = e i; last = last }
counted (x ∷ rows) n last h =
    let k : min (suc n) most_place ≤ most_place = omega arith in
    let e : min (min (suc n) most_place + length rows) most_place ≡ min (n + suc (length rows)) most_place = omega arith in
    counted rows (min (suc n) most_place) x.at k ∙ (λ i. record { rows = e i; last = last_time x.at rows })

pub all-counted : (rows : List Sample) → span_after (record { rows = 0; last = 0 }) rows ≡ span_of rows
all-counted rows =
    let h : 0 ≤ most_place = omega arith in
    let e : min (0 + length rows) most_place ≡ min (length rows) most_place = omega arith in
    counted rows 0 0 h ∙ (λ i. record { rows = e i; last = last_time 0 rows })

-- ---- a check and its reader

pub from-reader : (r : SampleReader) (rest : List ℕ) → yet_to_come r rest ≡ file_rows rest → checked_with (record { reader = r; span = record { rows = 0; last = 0 } }) rest ≡ placed (sheet_span rest)
unfolding checked_with sheet_span
from-reader r rest e = ap (spanned (record { rows = 0; last = 0 })) e ∙ of-rows (file_rows rest).verdict (file_rows rest).rows ∙ ap of_answer (file-answer rest) ∙ from_nothing (sample_file rest)
  where
    of_answer : Answer (List Sample) → Answer Span
    of_answer a = a >>= λ (rows : List Sample). accepted (span_after (record { rows = 0; last = 0 }) rows)

    of-rows : (v : Answer (Unit {0})) (rows : List Sample) → (v >> accepted (span_after (record { rows = 0; last = 0 }) rows)) ≡ of_answer (v >> accepted rows)
    of-rows (accepted u) rows = refl
    of-rows (refused number place) rows = refl

    from_nothing : (a : Answer (List Sample)) → of_answer (placed a) ≡ placed (a >>= λ (rows : List Sample). accepted (span_of rows))
    from_nothing (accepted rows) = ap accepted (all-counted rows)
    from_nothing (refused number place) = refl

-- the place of a file's refusal is one that 64 bits hold
pub span-place : (s : List ℕ) → length s ≤ most_place → placed (sheet_span s) ≡ sheet_span s
unfolding sheet_span
span-place s h = stays-bind (sample_file s) _ (file-place s h) (λ rows. refl)

-- without the span it is the verdict
pub span-judged : (s : List ℕ) → judged (sheet_span s) ≡ sample_check s
unfolding sheet_span sample_check
span-judged s = go (sample_file s)
  where
    go : (a : Answer (List Sample)) → judged (a >>= λ (rows : List Sample). accepted (span_of rows)) ≡ judged a
    go (accepted rows) = refl
    go (refused number place) = refl

module _ (c : SampleCheck) where
  pub last-told : (found : Option Sample) (e : Result (Option Sample) Refusal) → ending_of e ≡ yet_to_come c.reader [] → e ≡ Ok found → accepted (one_more c.span found) ≡ checked_with c []
  unfolding checked_with span_after
  last-told (Some x) e h is = ap (λ (e : Result (Option Sample) Refusal). spanned c.span (ending_of e)) (sym is) ∙ ap (spanned c.span) h
  last-told None e h is = ap (λ (e : Result (Option Sample) Refusal). spanned c.span (ending_of e)) (sym is) ∙ ap (spanned c.span) h

  pub refused_end : (r : Refusal) (e : Result (Option Sample) Refusal) → ending_of e ≡ yet_to_come c.reader [] → e ≡ Err r → refusal_of r ≡ checked_with c []
  unfolding checked_with
  refused_end r e h is = ap (λ (e : Result (Option Sample) Refusal). spanned c.span (ending_of e)) (sym is) ∙ ap (spanned c.span) h

-- a pull goes ahead, with a row or with the whole chunk
pub pull-ahead : (m : SampleReader) (chunk : List ℕ) (at : ℕ) (p : Pulled) → PulledRight m chunk at p → at < length chunk → at < p.next
pull-ahead m chunk at p right h = go (is_some p.found) refl
  where
    go : (b : Bool) → is_some p.found ≡ b → at < p.next
    go true e = right.onward e
    go false e = let k : p.next ≡ length chunk = right.exhausted e in omega arith

-- a file that is there as a whole is one chunk
pub whole-file : (file : List ℕ) (first last : SampleCheck) → ((rest : List ℕ) → checked_with first rest ≡ placed (sheet_span rest)) → ((rest : List ℕ) → checked_with first (file ++ rest) ≡ checked_with last rest)
    → length file ≤ most_place → (v : Result Span Refusal) → result_of v ≡ checked_with last [] → result_of v ≡ sheet_span file
whole-file file first last begun fed h v e =
    let w : file ++ [] ≡ file = append-nil file in
    e ∙ sym (fed []) ∙ begun (file ++ []) ∙ ap (λ (s : List ℕ). placed (sheet_span s)) w ∙ span-place file h
