-- Lists in which calls of one second and of many are mixed exist: of every accepted file, whatever each call is handed. Assumes nothing.
use Prim.Native.Nat.{ℕ, ◌*◌}
use mathlib.Core.Path.{◌≡◌, refl, ap}
use mathlib.Core.List.{List, [], ◌∷◌, ◌++◌, map}
use lib.ListN.{length, drop}
use Rattle.rules.specs.declared.station.Station.{Station}
use Rattle.rules.specs.declared.run.Run.{Run}
use Rattle.rules.specs.Answers.{accepted}
use Rattle.rules.specs.StationFile.{station_file}
use Rattle.rules.specs.RunRecord.{start_record}
use Rattle.rules.specs.Second.{second, record_handed}
use Rattle.rules.specs.Seconds.{numbers_of, WorkedSeconds, came_of}
use Rattle.claims_rules.specs.Batches.{one, many, ManyCall, Batch, run_after, ChainedBatches, none, more}
use Rattle.claims.specs.Functions.{ManyBy}
use Rattle.claims.specs.Mixed.{BatchBy, LentMany, Handing, handed_to, RealisedMixed}
use Rattle.claims.proofs.Exists.{call_of, called-by, started_of, was_read, was-started, from-file}

-- the call of many seconds of a station, a record, inputs and rows
module _ (st : Station) (r : Run) (l : LentMany) where
  abbrev came : WorkedSeconds
  came = came_of st r l.inputs l.lent

  abbrev many_of : ManyCall
  many_of = record {
    inputs = l.inputs;
    lent = l.lent;
    worked = record { run = came.run; seconds = length came.rows; ended = came.ended };
    left = numbers_of came.rows ++ drop (13 * length came.rows) l.lent;
  }

  many_by : ManyBy st r many_of
  many_by = record {
    κs = ([], ([], tt));
    args = (st, (r, (record { ref_ptr = (0, 0); now = l.inputs }, (record { ref_ptr = (0, 0); ghost_name = 0; now = l.lent }, tt))));
    exit = (st, (r, (record { ref_ptr = (0, 0); now = l.inputs }, (record { ref_ptr = (0, 0); ghost_name = 0; now = many_of.left }, tt))));
    passed = (refl, refl, refl, refl);
    returned = record { hands = refl; counts = refl; ends = refl; leaves = refl };
    seen = refl;
  }

-- ---- a list of both

record Made (st : Station) (r : Run) (handed : List Handing) : Type 0 where
  batches : List Batch
  last : Run
  chained : ChainedBatches (BatchBy st) r batches last
  as-handed : map handed_to batches ≡ handed

made-on : (st : Station) (r : Run) (b : Batch) → BatchBy st r b → (handed : List Handing) → Made st (run_after b) handed → Made st r (handed_to b ∷ handed)
made-on st r b by handed e = record {
  batches = b ∷ e.batches;
  last = e.last;
  chained = more by e.chained;
  as-handed = ap (λ (t : List Handing). handed_to b ∷ t) e.as-handed;
}

made : (st : Station) (r : Run) (handed : List Handing) → Made st r handed
unfolding call_of
made st r [] = record { batches = []; last = r; chained = none; as-handed = refl }
made st r (one l ∷ handed) = made-on st r (one (call_of st r l)) (called-by st r l) handed (made st (record_handed r (second st r l.inputs (length l.lent))) handed)
made st r (many l ∷ handed) = made-on st r (many (many_of st r l)) (many_by st r l) handed (made st (came_of st r l.inputs l.lent).run handed)

pub mixed-exists : (file : List ℕ) (st : Station) → station_file file ≡ accepted st → (handed : List Handing) → RealisedMixed file handed
mixed-exists file st h handed =
    let m = made st (start_record st) handed in
    record {
      station = st;
      was_read = was_read file st h;
      started = started_of file st h;
      was-started = was-started file st h;
      from-file = from-file file st h;
      batches = m.batches;
      last = m.last;
      chained = m.chained;
      as-handed = m.as-handed;
    }
