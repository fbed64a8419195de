-- What both files' verdicts come to is what the program prints, by document 01's definitions. Assumes nothing.
use Rattle.std.specs.Prelude.{Ok}
use Prim.Native.Nat.{ℕ}
use mathlib.Core.Path.{◌≡◌, refl, sym, ap, ◌∙◌}
use mathlib.Core.List.{List, []}
use Rattle.rules.specs.declared.answers.Refusal.{Refusal}
use Rattle.rules.specs.declared.samples.Sample.{Sample}
use Rattle.rules.specs.declared.station.Station.{Station}
use Rattle.rules.specs.Answers.{Answer, accepted, refused, is_accepted, judged, refusal_of, result_of, ◌>>=◌}
use Rattle.rules.specs.StationFile.{station_file}
use Rattle.rules.specs.SampleFile.{sample_file}
use Rattle.rules.specs.Row.{refusal_line}
use Rattle.rules.specs.Run.{shown}
use Rattle.rules.proofs.Tests.{never}
use Rattle.rows.specs.AnswerLine.{accepted_line, refused_line}
use Rattle.samples.specs.declared.check.Span.{Span}
use Rattle.samples.specs.Streamed.{sheet_span, span_of}
use Rattle.check_machine.specs.Answer.{check_of, answered}

-- the line of an answer that is a refusal
abbrev line_of : {A : Type 0} → Answer A → List ℕ
line_of (accepted a) = []
line_of (refused number place) = refusal_line number place

-- ---- the station

abbrev after_station : List ℕ → Answer Station → List ℕ
after_station samples a = shown (a >>= λ st. sample_file samples >>= λ rows. accepted accepted_line)

pub station-refused : (station samples : List ℕ) (r : Refusal) → refusal_of r ≡ judged (station_file station) → answered station samples ≡ refused_line r
unfolding answered check_of refused_line
station-refused station samples r e = go (station_file station) e
  where
    go : (a : Answer Station) → refusal_of r ≡ judged a → after_station samples a ≡ line_of {A = Unit {0}} (refusal_of r)
    go (accepted st) e = never (ap is_accepted e)
    go (refused number place) e = sym (ap (line_of {A = Unit {0}}) e)

pub record Reads (a : Answer Station) : Type 0 where
  pub station : Station
  pub is : a ≡ accepted station

pub station-accepted : (a : Answer Station) → result_of (Ok tt) ≡ judged a → Reads a
station-accepted (accepted st) e = record { station = st; is = refl }
station-accepted (refused number place) e = never (sym (ap is_accepted e))

-- ---- the samples

abbrev after_samples : Answer (List Sample) → List ℕ
after_samples a = shown (a >>= λ rows. accepted accepted_line)

with-station : (station samples : List ℕ) (st : Station) → station_file station ≡ accepted st → answered station samples ≡ after_samples (sample_file samples)
unfolding answered check_of
with-station station samples st p = ap (after_station samples) p

abbrev span_in : Answer (List Sample) → Answer Span
span_in a = a >>= λ rows. accepted (span_of rows)

pub samples-refused : (station samples : List ℕ) (st : Station) (r : Refusal) → station_file station ≡ accepted st → refusal_of r ≡ sheet_span samples → answered station samples ≡ refused_line r
unfolding sheet_span refused_line
samples-refused station samples st r p e = with-station station samples st p ∙ go (sample_file samples) e
  where
    go : (a : Answer (List Sample)) → refusal_of r ≡ span_in a → after_samples a ≡ line_of {A = Span} (refusal_of r)
    go (accepted rows) e = never (ap is_accepted e)
    go (refused number place) e = sym (ap (line_of {A = Span}) e)

pub samples-accepted : (station samples : List ℕ) (st : Station) (span : Span) → station_file station ≡ accepted st → accepted span ≡ sheet_span samples → answered station samples ≡ accepted_line
unfolding sheet_span
samples-accepted station samples st span p e = with-station station samples st p ∙ go (sample_file samples) e
  where
    go : (a : Answer (List Sample)) → accepted span ≡ span_in a → after_samples a ≡ accepted_line
    go (accepted rows) e = refl
    go (refused number place) e = never (sym (ap is_accepted e))
