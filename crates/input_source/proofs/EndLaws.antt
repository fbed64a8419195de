-- A source that is refused, and the end of the file. Assumes nothing.
use Rattle.std.specs.Prelude.{Ok, Err, Some, None, Result, Option}
use Prim.Native.Nat.{ℕ}
use mathlib.Core.Path.{◌≡◌, refl, sym, ap, ◌∙◌}
use mathlib.Core.Bool.{Bool, true, false, not}
use mathlib.Core.List.{List, []}
use Rattle.rules.specs.Answers.{is_accepted}
use Rattle.rules.specs.Lines.{Line}
use Rattle.rules.proofs.Tests.{never}
use Rattle.sheet_stages.specs.declared.stage.Stage.{Stage}
use Rattle.rows_in_force.specs.declared.in_force.Ahead.{Ahead}
use Rattle.input_source.specs.declared.source.InputSource.{InputSource}
use Rattle.sheet_stages.specs.ToCome.{RowsRead, to_come, is_refused}
use Rattle.sample_rows.specs.Streamed.{yet_to_come, lines_after, begun_in, ending_of}
use Rattle.rows_in_force.specs.Held.{rows_ahead, is_ended, is_refusal}
use Rattle.input_source.specs.Source.{source_rows, refused_ahead, source_refused, ahead_at_end, at_end_of, EndedRight}
use Rattle.sheet_stages.proofs.StageLaws.{refused-read}
use Rattle.rules.specs.declared.answers.Refusal.{Refusal}
use Rattle.rules.specs.declared.samples.Sample.{Sample}

-- ---- refused

-- a source that is refused has no row left, whatever follows
pub nothing_left : (s : InputSource) (rest : List ℕ) → source_refused s ≡ true → ((source_rows s rest).rows ≡ []) × (is_accepted (source_rows s rest).verdict ≡ false)
unfolding source_rows source_refused yet_to_come
nothing_left s rest h = go s.ahead s.reader.stage h
  where
    of-stage : (stage : Stage) → is_refused stage ≡ true → (ls : List Line) → ((to_come stage ls).rows ≡ []) × (is_accepted (to_come stage ls).verdict ≡ false)
    of-stage Stage.Heading e ls = never e
    of-stage (Stage.FirstRow c) e ls = never e
    of-stage (Stage.LaterRows c last n) e ls = never e
    of-stage (Stage.Refused r) e ls = let is = refused-read r ls in (ap (λ (a : RowsRead). a.rows) is, ap (λ (a : RowsRead). is_accepted a.verdict) is)

    go : (ahead : Ahead) (stage : Stage) → refused_ahead ahead (is_refused stage) ≡ true
        → ((rows_ahead ahead (to_come stage (lines_after (begun_in s.reader) rest))).rows ≡ []) × (is_accepted (rows_ahead ahead (to_come stage (lines_after (begun_in s.reader) rest))).verdict ≡ false)
    go Ahead.Unread stage e = of-stage stage e (lines_after (begun_in s.reader) rest)
    go (Ahead.Next x) stage e = never e
    go (Ahead.LastTwo x y) stage e = never e
    go (Ahead.Last x) stage e = never e
    go Ahead.Ended stage e = never e
    go (Ahead.Refused r) stage e = (refl, refl)

-- nor does what follows change anything
pub for-good : (s : InputSource) (rest rest' : List ℕ) → source_refused s ≡ true → source_rows s rest ≡ source_rows s rest'
unfolding source_rows source_refused yet_to_come
for-good s rest rest' h = go s.ahead s.reader.stage h
  where
    of-stage : (stage : Stage) → is_refused stage ≡ true → (ls ls' : List Line) → to_come stage ls ≡ to_come stage ls'
    of-stage Stage.Heading e ls ls' = never e
    of-stage (Stage.FirstRow c) e ls ls' = never e
    of-stage (Stage.LaterRows c last n) e ls ls' = never e
    of-stage (Stage.Refused r) e ls ls' = refused-read r ls ∙ sym (refused-read r ls')

    go : (ahead : Ahead) (stage : Stage) → refused_ahead ahead (is_refused stage) ≡ true
        → rows_ahead ahead (to_come stage (lines_after (begun_in s.reader) rest)) ≡ rows_ahead ahead (to_come stage (lines_after (begun_in s.reader) rest'))
    go Ahead.Unread stage e = of-stage stage e (lines_after (begun_in s.reader) rest) (lines_after (begun_in s.reader) rest')
    go (Ahead.Next x) stage e = never e
    go (Ahead.LastTwo x y) stage e = refl
    go (Ahead.Last x) stage e = refl
    go Ahead.Ended stage e = refl
    go (Ahead.Refused r) stage e = refl

-- so that one whose file is accepted is not refused
pub source-accepted : (s : InputSource) (rest : List ℕ) → is_accepted (source_rows s rest).verdict ≡ true → source_refused s ≡ false
source-accepted s rest h = go (source_refused s) refl
  where
    go : (b : Bool) → source_refused s ≡ b → b ≡ false
    go true e = never (sym (nothing_left s rest e).1 ∙ h)
    go false e = refl

-- one that is refused before the file's end has to read further
pub refused-unread : (s : InputSource) → source_refused s ≡ true → is_ended s.ahead ≡ false → s.ahead ≡ Ahead.Unread
unfolding source_refused
refused-unread s h e = go s.ahead h e
  where
    go : (ahead : Ahead) → refused_ahead ahead (is_refused s.reader.stage) ≡ true → is_ended ahead ≡ false → ahead ≡ Ahead.Unread
    go Ahead.Unread h e = refl
    go (Ahead.Next x) h e = never h
    go (Ahead.LastTwo x y) h e = never h
    go (Ahead.Last x) h e = never h
    go Ahead.Ended h e = never h
    go (Ahead.Refused r) h e = never (sym e)

-- and that no refusal is ahead of one that is not
pub no-refusal : (s : InputSource) → source_refused s ≡ false → is_refusal s.ahead ≡ false
unfolding source_refused
no-refusal s h = go s.ahead h
  where
    go : (ahead : Ahead) → refused_ahead ahead (is_refused s.reader.stage) ≡ false → is_refusal ahead ≡ false
    go Ahead.Unread e = refl
    go (Ahead.Next x) e = refl
    go (Ahead.LastTwo x y) e = refl
    go (Ahead.Last x) e = refl
    go Ahead.Ended e = refl
    go (Ahead.Refused r) e = e

-- ---- the end of the file

at-end : (ahead : Ahead) (e : Result (Option Sample) Refusal) (a : RowsRead) → rows_ahead (ahead_at_end ahead e) a ≡ at_end_of (rows_ahead ahead (ending_of e))
at-end Ahead.Unread (Ok (Some y)) a = refl
at-end Ahead.Unread (Ok None) a = refl
at-end Ahead.Unread (Err r) a = refl
at-end (Ahead.Next x) (Ok (Some y)) a = refl
at-end (Ahead.Next x) (Ok None) a = refl
at-end (Ahead.Next x) (Err r) a = refl
at-end (Ahead.LastTwo x y) e a = refl
at-end (Ahead.Last x) e a = refl
at-end Ahead.Ended e a = refl
at-end (Ahead.Refused r) e a = refl

refused-at-end : (ahead : Ahead) (e : Result (Option Sample) Refusal) (line : Bool) → refused_ahead (ahead_at_end ahead e) line ≡ not (is_accepted (rows_ahead ahead (ending_of e)).verdict)
refused-at-end Ahead.Unread (Ok (Some y)) line = refl
refused-at-end Ahead.Unread (Ok None) line = refl
refused-at-end Ahead.Unread (Err r) line = refl
refused-at-end (Ahead.Next x) (Ok (Some y)) line = refl
refused-at-end (Ahead.Next x) (Ok None) line = refl
refused-at-end (Ahead.Next x) (Err r) line = refl
refused-at-end (Ahead.LastTwo x y) e line = refl
refused-at-end (Ahead.Last x) e line = refl
refused-at-end Ahead.Ended e line = refl
refused-at-end (Ahead.Refused r) e line = refl

ends : (ahead : Ahead) (e : Result (Option Sample) Refusal) → is_ended (ahead_at_end ahead e) ≡ true
ends Ahead.Unread (Ok (Some y)) = refl
ends Ahead.Unread (Ok None) = refl
ends Ahead.Unread (Err r) = refl
ends (Ahead.Next x) (Ok (Some y)) = refl
ends (Ahead.Next x) (Ok None) = refl
ends (Ahead.Next x) (Err r) = refl
ends (Ahead.LastTwo x y) e = refl
ends (Ahead.Last x) e = refl
ends Ahead.Ended e = refl
ends (Ahead.Refused r) e = refl

pub ended-right : (s : InputSource) (e : Result (Option Sample) Refusal) (ahead : Ahead) → ending_of e ≡ yet_to_come s.reader [] → ahead ≡ ahead_at_end s.ahead e
    → EndedRight s (record { reader = s.reader; now = s.now; ahead = ahead })
unfolding source_rows source_refused
ended-right s e ahead h is = record {
  rows = λ rest. ap (λ (w : Ahead). rows_ahead w (yet_to_come s.reader rest)) is ∙ at-end s.ahead e (yet_to_come s.reader rest) ∙ ap (λ (r : RowsRead). at_end_of (rows_ahead s.ahead r)) h;
  held = refl;
  ended = ap is_ended is ∙ ends s.ahead e;
  right = ap (λ (w : Ahead). refused_ahead w (is_refused s.reader.stage)) is ∙ refused-at-end s.ahead e (is_refused s.reader.stage) ∙ ap (λ (r : RowsRead). not (is_accepted (rows_ahead s.ahead r).verdict)) h;
}
