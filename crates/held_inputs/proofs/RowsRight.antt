-- The rows of an accepted sample file are right, and so is what each second is handed: every power is at most 50,000 kW, and the
-- sheddable load is not above the load. Assumes nothing.
use Rattle.std.specs.Prelude.{if◌then◌else◌}
use Prim.Native.Nat.{ℕ, zero, suc, ◌+◌}
use mathlib.Core.Path.{◌≡◌, refl, sym, ap, subst, ◌∙◌}
use mathlib.Core.Bool.{Bool, true, false}
use mathlib.Core.List.{List, [], ◌∷◌, ◌++◌, map, append-nil}
use native.Mathlib.Omega.{arith}
use lib.ListN.{drop}
use Rattle.rules.specs.declared.samples.Sample.{Sample}
use Rattle.rules.specs.declared.run.Inputs.{Inputs}
use Rattle.rules.specs.Lines.{Line}
use Rattle.rules.specs.Answers.{Answer, accepted, refused, is_accepted}
use Rattle.rules.specs.SampleFile.{sample_sheet, later_rows, rows_after, sheet_lines, sample_of, holding, before_all}
use Rattle.rules.specs.Run.{inputs_of}
use Rattle.rules.proofs.Checks.{not-accepted, same-value}
use Rattle.rules.proofs.SampleRows.{RowRight, RowsRight, later-right, after-right, sheet-right, head-right, tail-right, holding-right}
use Rattle.sheet_headings.specs.Headings.{columns_of}
use Rattle.sheet_stages.specs.declared.stage.Stage.{Stage}
use Rattle.rows_in_force.specs.declared.in_force.Ahead.{Ahead}
use Rattle.input_source.specs.declared.source.InputSource.{InputSource}
use Rattle.held_inputs.specs.declared.fill.Filled.{Filled}
use Rattle.sheet_stages.specs.ToCome.{placed, samples_of, answer_from, RowsRead, to_come}
use Rattle.sample_rows.specs.Streamed.{yet_to_come, lines_after, begun_in}
use Rattle.rows_in_force.specs.Held.{rows_ahead, held_from}
use Rattle.input_source.specs.Source.{source_rows, at_end_of, EndedRight}
use Rattle.held_inputs.specs.Filling.{inputs_in, FilledRight}
use Rattle.sheet_stages.proofs.UpToRefused.{read-holds}
use Rattle.rows_in_force.proofs.HeldLaws.{held_none}

-- what a second is handed, in the words of its row
pub data InputsRight : List Inputs → Type 0 where
  none : InputsRight []
  more : (x : Sample) {xs : List Inputs} → RowRight x → InputsRight xs → InputsRight (inputs_of x ∷ xs)

abbrev pub AheadRight : Ahead → Type 0
AheadRight Ahead.Unread = Unit {0}
AheadRight (Ahead.Next x) = RowRight x
AheadRight (Ahead.LastTwo x y) = RowRight x × RowRight y
AheadRight (Ahead.Last x) = RowRight x
AheadRight Ahead.Ended = Unit {0}
AheadRight (Ahead.Refused r) = Unit {0}

-- the row in force, and those that are known to be ahead
pub record SourceRight (s : InputSource) : Type 0 where
  pub force : RowRight s.now
  pub ahead : AheadRight s.ahead

-- ---- the rows to come

as-samples : (a : Answer (List (List ℕ))) (rows : List Sample) → ((values : List (List ℕ)) → a ≡ accepted values → RowsRight (map sample_of values)) → placed (samples_of a) ≡ accepted rows → RowsRight rows
as-samples (accepted values) rows right e = subst RowsRight (same-value (map sample_of values) rows e) (right values refl)
as-samples (refused number place) rows right e = not-accepted _ _ rows e

answer-right : (stage : Stage) (ls : List Line) (rows : List Sample) → answer_from stage ls ≡ accepted rows → RowsRight rows
unfolding answer_from
answer-right Stage.Heading ls rows e = as-samples (sheet_lines sample_sheet ls) rows (sheet-right ls) e
answer-right (Stage.FirstRow columns) ls rows e = as-samples (rows_after sample_sheet (columns_of columns) ls) rows (after-right (columns_of columns) ls) e
answer-right (Stage.LaterRows columns last n) ls rows e = as-samples (later_rows sample_sheet (columns_of columns) (suc n) last ls) rows (later-right (columns_of columns) (suc n) last ls) e
answer-right (Stage.Refused r) ls rows e = not-accepted _ _ rows e

-- of the lines up to the first refused one too
to-come-right : (stage : Stage) (ls : List Line) → RowsRight (to_come stage ls).rows
unfolding to_come
to-come-right stage ls = read-holds RowsRight RowsRight.none (answer_from stage) (answer-right stage) ls

-- every row that is still to come into force is right
pub source-rows-right : (s : InputSource) (rest : List ℕ) → AheadRight s.ahead → RowsRight (source_rows s rest).rows
unfolding source_rows yet_to_come
source-rows-right s rest h = go s.ahead h
  where
    go : (ahead : Ahead) → AheadRight ahead → RowsRight (rows_ahead ahead (to_come s.reader.stage (lines_after (begun_in s.reader) rest))).rows
    go Ahead.Unread h = to-come-right s.reader.stage (lines_after (begun_in s.reader) rest)
    go (Ahead.Next x) h = RowsRight.more h (to-come-right s.reader.stage (lines_after (begun_in s.reader) rest))
    go (Ahead.LastTwo x y) h = RowsRight.more h.0 (RowsRight.more h.1 RowsRight.none)
    go (Ahead.Last x) h = RowsRight.more h RowsRight.none
    go Ahead.Ended h = RowsRight.none
    go (Ahead.Refused r) h = RowsRight.none

-- so that the rows that are known to be ahead are
ahead-right : (s : InputSource) (rest : List ℕ) → RowsRight (source_rows s rest).rows → AheadRight s.ahead
unfolding source_rows
ahead-right s rest h = go s.ahead h
  where
    go : (ahead : Ahead) → RowsRight (rows_ahead ahead (yet_to_come s.reader rest)).rows → AheadRight ahead
    go Ahead.Unread h = tt
    go (Ahead.Next x) h = head-right h
    go (Ahead.LastTwo x y) h = (head-right h, head-right (tail-right h))
    go (Ahead.Last x) h = head-right h
    go Ahead.Ended h = tt
    go (Ahead.Refused r) h = tt

-- ---- what each second is handed

pub held-right : (now : Sample) (rows : List Sample) (t n : ℕ) → RowRight now → RowsRight rows → InputsRight (held_from now rows t n)
unfolding held_from
held-right now rows t zero h k = InputsRight.none
held-right now rows t (suc n) h k = InputsRight.more (holding now rows t) (holding-right now rows t h k) (held-right now rows (suc t) n h k)

-- ---- the calls keep it

pub start_right : (s : InputSource) → s.now ≡ before_all → s.ahead ≡ Ahead.Unread → SourceRight s
start_right s e is = record {
  force = subst RowRight (sym e) (record { load = omega arith; solar = omega arith; sheddable = omega arith; agrees = omega arith });
  ahead = subst AheadRight (sym is) tt;
}

drop-right : (n : ℕ) (rows : List Sample) → RowsRight rows → RowsRight (drop n rows)
drop-right zero rows h = h
drop-right (suc n) [] h = h
drop-right (suc n) (x ∷ rows) h = drop-right n rows (tail-right h)

module _ (s : InputSource) (second : ℕ) (chunk : List ℕ) (at : ℕ) (loads₀ solars₀ sheddables₀ : List ℕ) (r : Filled) (loads solars sheddables : List ℕ)
    (f : FilledRight s second chunk at loads₀ solars₀ sheddables₀ r loads solars sheddables) (right : SourceRight s) where
  all_right : RowsRight (s.now ∷ (source_rows s (drop at chunk ++ [])).rows)
  all_right = RowsRight.more right.force (source-rows-right s (drop at chunk ++ []) right.ahead)

  left-right : RowsRight (r.source.now ∷ (source_rows r.source (drop r.next chunk ++ [])).rows)
  left-right = subst RowsRight (f.inputs []).last (drop-right (f.inputs []).passed (s.now ∷ (source_rows s (drop at chunk ++ [])).rows) all_right)

  pub fill-keeps-right : SourceRight r.source
  fill-keeps-right = record { force = head-right left-right; ahead = ahead-right r.source (drop r.next chunk ++ []) (tail-right left-right) }

  -- the seconds that were told
  pub filled-inputs-right : InputsRight (inputs_in r.seconds loads solars sheddables)
  filled-inputs-right =
      let others = (source_rows r.source (drop r.next chunk ++ [])).rows in
      let told = (f.inputs []).told 0
      ∙ ap (λ (l : List Inputs). inputs_in r.seconds loads solars sheddables ++ l) (held_none r.source.now others (second + r.seconds))
      ∙ append-nil (inputs_in r.seconds loads solars sheddables) in
      subst InputsRight told (held-right s.now (source_rows s (drop at chunk ++ [])).rows second (r.seconds + 0) right.force (tail-right all_right))

pub end-keeps-right : (s r : InputSource) → EndedRight s r → SourceRight s → SourceRight r
end-keeps-right s r f right = record {
  force = subst RowRight (sym f.held) right.force;
  ahead = ahead-right r [] (subst (λ (a : RowsRead). RowsRight a.rows) (sym (f.rows [])) (at-end (source_rows s []) (source-rows-right s [] right.ahead)));
}
  where
    at-end : (a : RowsRead) → RowsRight a.rows → RowsRight (at_end_of a).rows
    at-end a h = go (is_accepted a.verdict)
      where
        go : (b : Bool) → RowsRight (if b then a else record { rows = []; verdict = a.verdict }).rows
        go true = h
        go false = RowsRight.none
