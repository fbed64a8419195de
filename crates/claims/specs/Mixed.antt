-- DEMAND 3 of lists in which calls of one second and calls of many are mixed. Definitions only; proofs/Mixed.antt has the theorem.
use Rattle.std.specs.Prelude.{ℕ, ◌≡◌, List, map, Ok}
use Rattle.rules.specs.declared.station.Station.{Station}
use Rattle.rules.specs.declared.run.Run.{Run}
use Rattle.rules.specs.Answers.{accepted}
use Rattle.rules.specs.StationFile.{station_file}
use Rattle.records.specs.declared.start.Started.{Started}
use Rattle.claims_rules.specs.Batches.{OneOrMany, one, many, Batch, ChainedBatches, ClaimBatches}
use Rattle.claims.specs.Functions.{ReadBy, StartedBy, CalledBy, ManyBy, AskNothing}
use Rattle.claims.specs.Demand3.{FromFile, Lent, lent_to}

-- of a batch no more is known than what the contract of the function that was called ensures
abbrev pub BatchBy : Station → Run → Batch → Type 0
BatchBy st r (one c) = CalledBy st r c
BatchBy st r (many m) = ManyBy st r m

-- ---- and such lists exist

-- what a call of many seconds is handed beside station and record
pub record LentMany : Type 0 where
  pub inputs : List ℕ
  pub lent : List ℕ

-- which call was made, and what it was handed
abbrev pub Handing : Type 0
Handing = OneOrMany Lent LentMany

abbrev pub handed_to : Batch → Handing
handed_to (one c) = one (lent_to c)
handed_to (many m) = many (record { inputs = m.inputs; lent = m.lent })

pub record RealisedMixed (file : List ℕ) (handed : List Handing) : Type 0 where
  pub station : Station
  pub was_read : ReadBy file (Ok station)
  pub started : Started
  pub was-started : StartedBy station started
  pub from-file : FromFile file station started
  pub batches : List Batch
  pub last : Run
  pub chained : ChainedBatches (BatchBy station) started.run batches last
  pub as-handed : map handed_to batches ≡ handed

-- ---- the demand

pub record MixedDemand3 : Type 0 where
  pub any-arguments : AskNothing
  pub every-list : (file : List ℕ) (st : Station) (s : Started) (batches : List Batch) (last : Run)
      → ReadBy file (Ok st) → StartedBy st s → ChainedBatches (BatchBy st) s.run batches last
      → FromFile file st s × ClaimBatches st s.run batches last
  pub lists-exist : (file : List ℕ) (st : Station) → station_file file ≡ accepted st → (handed : List Handing) → RealisedMixed file handed
