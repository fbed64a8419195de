-- DEMAND 3 of what a clerk holds in hand: of the text that `Run.printed` gives, which is what the run program hands over to be written.
-- Definitions only; proofs/Printed.antt has the theorem.
use Rattle.std.specs.Prelude.{ℕ, ◌≡◌, List, map, replicate, Ok}
use Rattle.rules.specs.declared.station.Station.{Station}
use Rattle.rules.specs.declared.samples.Sample.{Sample}
use Rattle.rules.specs.declared.run.Inputs.{Inputs}
use Rattle.rules.specs.declared.run.Run.{Run}
use Rattle.rules.specs.Answers.{accepted}
use Rattle.rules.specs.StationFile.{station_file}
use Rattle.rules.specs.SampleFile.{sample_file}
use Rattle.rules.specs.Run.{seconds_asked, printed}
use Rattle.rules.specs.Calls.{Call, Chained}
use Rattle.records.specs.declared.start.Started.{Started}
use Rattle.claims_rules.specs.Printed.{inputs_from, Printed, text_of, CallsOf}
use Rattle.claims.specs.Functions.{ReadBy, StartedBy, CalledBy}
use Rattle.claims.specs.Demand3.{Lent, Realised}

-- what each call of the seconds of a sample file is handed, with a buffer of 256 bytes
abbrev pub handed_of : List Inputs → List Lent
handed_of xs = map (λ x. record { inputs = x; lent = replicate 256 0 }) xs

-- such a list of calls was made
pub record Made (station : List ℕ) (samples : List Sample) (n : ℕ) : Type 0 where
  pub realised : Realised station (handed_of (inputs_from samples 0 n))
  pub calls-of : CallsOf samples n realised.calls

pub record PrintedDemand3 : Type 0 where
  -- for every pair of accepted files and every accepted SECONDS, by the numbers on the text itself
  pub text-holds : (station samples seconds : List ℕ) (st : Station) (rows : List Sample) (n : ℕ)
      → station_file station ≡ accepted st → sample_file samples ≡ accepted rows → seconds_asked seconds ≡ accepted n
      → Printed st rows n (printed station samples seconds)
  -- the text is the heading, the rows and the sets' lines of every list of calls of those seconds, with any buffers that have room
  pub of_calls : (station samples seconds : List ℕ) (st : Station) (s : Started) (rows : List Sample) (n : ℕ) (calls : List Call) (last : Run)
      → ReadBy station (Ok st) → StartedBy st s → sample_file samples ≡ accepted rows → seconds_asked seconds ≡ accepted n
      → Chained (CalledBy st) s.run calls last → CallsOf rows n calls
      → printed station samples seconds ≡ text_of st calls last
  -- and there is such a list
  pub calls-exist : (station : List ℕ) (st : Station) (rows : List Sample) (n : ℕ) → station_file station ≡ accepted st → Made station rows n
