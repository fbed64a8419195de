-- What a run that begins prints is what document 01's definition of the run program prints. Assumes nothing.
use Prim.Native.Nat.{ℕ, zero, suc}
use mathlib.Core.Path.{◌≡◌, refl, sym, ap, ◌∙◌, subst}
use mathlib.Core.List.{List, [], ◌++◌, append_assoc}
use native.Mathlib.Numerals.{add-one}
use Rattle.rules.specs.declared.station.Station.{Station}
use Rattle.rules.specs.declared.run.Inputs.{Inputs}
use Rattle.rules.specs.declared.run.Run.{Run}
use Rattle.rules.specs.declared.samples.Sample.{Sample}
use Rattle.rules.specs.Answers.{Answer, accepted, refused, ◌>>=◌}
use Rattle.rules.specs.StationFile.{station_file}
use Rattle.rules.specs.SampleFile.{sample_file, sample_at, holding, before_all}
use Rattle.rules.specs.RunRecord.{start_record}
use Rattle.rules.specs.Row.{row_heading, row_text, refusal_line}
use Rattle.rules.specs.Second.{step, record_after}
use Rattle.rules.specs.Run.{inputs_of, rows_from, seconds_asked, run_of, shown, printed}
use Rattle.rows.specs.AnswerLine.{refused_line}
use Rattle.row_texts.specs.RowLines as lines
use Rattle.samples.specs.declared.check.Span.{Span}
use Rattle.sheet_stages.specs.ToCome.{placed}
use Rattle.samples.specs.Streamed.{sheet_span, span_of}
use Rattle.rows_in_force.specs.Held.{held_from}
use Rattle.course.specs.declared.state.Course.{Course}
use Rattle.dispatch.specs.Working.{rows_of, run_after}
use Rattle.course.proofs.Started.{started-run, started-coming}
use Rattle.run_phases.specs.declared.state.Phase.{Phase}
use Rattle.run_phases.specs.declared.state.Simulation.{Simulation}
use Rattle.run_texts.specs.Rows.{row_texts, set_texts, rows_with}
use Rattle.run_texts.specs.Text.{text_of, to_print}
use Rattle.run_texts.specs.Coming.{ComesIn, Comes}
use Rattle.run_phases.specs.Begin.{Refuses, Starting, BegunAs}

-- ---- "A row holds until the next": the rows of the definition are those of the inputs held

module _ (st : Station) (samples : List Sample) where
  one_more : (r : Run) (x : Inputs) → (step st r x).run.done ≡ suc r.done
  unfolding step record_after
  one_more r x = add-one r.done

  pub rows-held : (n : ℕ) (r : Run) → rows_from st samples n r ≡ rows_with st (held_from before_all samples r.done n) r
  unfolding rows_from sample_at rows_with lines.text_of rows_of run_after set_texts held_from
  rows-held zero r = refl
  rows-held (suc n) r =
      let x : Inputs = inputs_of (holding before_all samples r.done) in
      ap (λ (l : List ℕ). row_text (step st r x).row ++ l) (rows-held n (step st r x).run ∙ ap (λ (t : ℕ). rows_with st (held_from before_all samples t n) (step st r x).run) (one_more r x))
      ∙ sym (append_assoc (row_text (step st r x).row) (row_texts st (held_from before_all samples (suc r.done) n) (step st r x).run) (set_texts st (run_after st (held_from before_all samples (suc r.done) n) (step st r x).run)))

-- ---- what a run begins with

-- these inputs are to come, and with them this text
pub record Starts (s : Simulation) (rest text : List ℕ) : Type 0 where
  pub inputs : List Inputs
  pub come : Comes s rest inputs
  pub text-is : to_print s inputs ≡ text

refusal-starts : (number place : ℕ) (s : Simulation) (rest : List ℕ) → Refuses number place s → Starts s rest (refusal_line number place)
unfolding text_of refused_line
refusal-starts number place s rest r =
    record {
      inputs = [];
      come = subst (λ (p : Phase). ComesIn p s rest []) (sym r.phase-is) (r.nothing.left_is, refl);
      text-is = rw (r.phase-is, r.number_is, r.place_is);
    }

module _ (station samples asked : List ℕ) (st : Station) (rows : List Sample) (n : ℕ) (s : Simulation) (reads : station_file station ≡ accepted st) (rows_are : placed (sample_file samples) ≡ accepted rows) (asks : seconds_asked asked ≡ accepted n) (b : Starting st n s) where
  abbrev c : Course
  c = s.course

  abbrev xs : List Inputs
  xs = held_from c.source.now rows c.run.done c.left

  run_is : c.run ≡ start_record st
  run_is = started-run station samples asked st rows n c reads rows_are asks b.course-is

  same_rows : rows_with c.station xs c.run ≡ rows_from st rows n (start_record st)
  same_rows =
      ap (λ (x : Station). rows_with x xs c.run) b.course-is.station-is
      ∙ ap (λ (x : Sample). rows_with st (held_from x rows c.run.done c.left) c.run) b.course-is.now-is
      ∙ ap (λ (x : ℕ). rows_with st (held_from before_all rows c.run.done x) c.run) b.course-is.left_is
      ∙ ap (λ (x : Run). rows_with st (held_from before_all rows x.done n) x) run_is ∙ sym (rows-held st rows n (start_record st))

  text : to_print s xs ≡ row_heading ++ rows_from st rows n (start_record st)
  unfolding text_of
  text = ap (λ (p : Phase). text_of p c.station c.run xs) b.phase-is ∙ ap (λ (l : List ℕ). row_heading ++ l) same_rows

  run-starts : Starts s samples (row_heading ++ rows_from st rows n (start_record st))
  run-starts =
      record {
        inputs = xs;
        come = subst (λ (p : Phase). ComesIn p s samples xs) (sym b.phase-is) (started-coming station samples asked st rows n c reads rows_are asks b.course-is);
        text-is = text;
      }

-- ---- by what the files and the seconds asked come to, in the paper's order

-- what the check of the samples has to say, unless the station is refused
abbrev pub CheckedFor : Answer Station → Answer Span → List ℕ → Type 0
CheckedFor (accepted st) checked samples = checked ≡ sheet_span samples
CheckedFor (refused number place) checked samples = Unit {0}

by-asked : (station samples asked : List ℕ) (st : Station) (rows : List Sample) (q : Answer ℕ) (s : Simulation) → station_file station ≡ accepted st → placed (sample_file samples) ≡ accepted rows → seconds_asked asked ≡ q
    → BegunAs (accepted st) (accepted (span_of rows)) q s → Starts s samples (shown (q >>= λ n. accepted (row_heading ++ rows_from st rows n (start_record st))))
by-asked station samples asked st rows (accepted n) s r p e b = run-starts station samples asked st rows n s r p e b
by-asked station samples asked st rows (refused n k) s r p e b = refusal-starts n k s samples b

by-samples : (station samples asked : List ℕ) (st : Station) (a : Answer (List Sample)) (s : Simulation) → station_file station ≡ accepted st → sample_file samples ≡ a
    → BegunAs (accepted st) (a >>= λ rows. accepted (span_of rows)) (seconds_asked asked) s
    → Starts s samples (shown (a >>= λ rows. seconds_asked asked >>= λ n. accepted (row_heading ++ rows_from st rows n (start_record st))))
by-samples station samples asked st (accepted rows) s r e b = by-asked station samples asked st rows (seconds_asked asked) s r (ap placed e) refl b
by-samples station samples asked st (refused n k) s r e b = refusal-starts n k s samples b

by-station : (station samples asked : List ℕ) (a : Answer Station) (checked : Answer Span) (s : Simulation) → station_file station ≡ a → CheckedFor a checked samples → BegunAs a checked (seconds_asked asked) s
    → Starts s samples (shown (a >>= λ st. sample_file samples >>= λ rows. seconds_asked asked >>= λ n. accepted (row_heading ++ rows_from st rows n (start_record st))))
unfolding sheet_span
by-station station samples asked (accepted st) checked s r c b =
    by-samples station samples asked st (sample_file samples) s r refl (subst (λ (x : Answer Span). BegunAs (accepted st) x (seconds_asked asked) s) c b)
by-station station samples asked (refused n k) checked s r c b = refusal-starts n k s samples b

pub begins-right : (station samples asked : List ℕ) (checked : Answer Span) (s : Simulation) → CheckedFor (station_file station) checked samples → BegunAs (station_file station) checked (seconds_asked asked) s → Starts s samples (printed station samples asked)
unfolding printed run_of
begins-right station samples asked checked s c b = by-station station samples asked (station_file station) checked s refl c b
