-- What stands before second 0 of an accepted sample file: the inputs of all its seconds are to come. Assumes nothing.
use Prim.Native.Nat.{ℕ}
use mathlib.Core.Path.{◌≡◌, refl, sym, ap, ◌∙◌, subst}
use mathlib.Core.Bool.{true}
use mathlib.Core.List.{List, ◌∷◌}
use native.Mathlib.Omega.{arith}
use lib.ListN.{length}
use Rattle.rules.specs.declared.station.Station.{Station}
use Rattle.rules.specs.declared.run.Inputs.{Inputs}
use Rattle.rules.specs.declared.run.Run.{Run}
use Rattle.rules.specs.declared.samples.Sample.{Sample}
use Rattle.rules.specs.Answers.{accepted, value_or}
use Rattle.rules.specs.StationFile.{station_file}
use Rattle.rules.specs.StationRecord.{some_file_gives}
use Rattle.rules.specs.SampleFile.{sample_file}
use Rattle.rules.specs.RunRecord.{start_record, start}
use Rattle.rules.specs.Run.{seconds_asked}
use Rattle.rules.proofs.Shapes.{tables-of}
use Rattle.rules.proofs.Start.{start-possible}
use Rattle.rules.proofs.StationRead.{read-is-right}
use Rattle.rules.proofs.SampleRows.{RowsRight}
use Rattle.records.specs.NoRun.{no_run}
use Rattle.records.proofs.StartTold.{start-accepted}
use Rattle.sheet_stages.specs.ToCome.{placed, RowsRead, file_rows, all_read}
use Rattle.rows_in_force.specs.Held.{held_from}
use Rattle.input_source.specs.Source.{source_rows}
use Rattle.sheet_stages.proofs.UpToRefused.{answer-all}
use Rattle.sample_rows.proofs.LineLaws.{file-answer}
use Rattle.held_inputs.proofs.RowsRight.{start_right, source-rows-right}
use Rattle.course.specs.declared.state.Course.{Course}
use Rattle.course.specs.Ruled.{AllRight, none, more}
use Rattle.course.specs.Coming.{inputs_all, Coming}
use Rattle.course.specs.Begin.{Before}
use Rattle.course.proofs.InputsRight.{held-length}
use Rattle.course.proofs.BeginLaws.{asked-most}

-- the inputs to come are as many as the seconds that are left
pub coming-length : (c : Course) (rest : List ℕ) (xs : List Inputs) → Coming c rest xs → length xs ≡ c.left
coming-length c rest xs k = ap length k.are ∙ held-length c.source.now k.rows c.run.done c.left

rows_right : {rows : List Sample} → RowsRight rows → AllRight (inputs_all rows)
rows_right RowsRight.none = none
rows_right (RowsRight.more r rs) = more (record { load-most = r.load; solar-most = r.solar; sheddable-most = r.sheddable; sheddable-load = r.agrees }) (rows_right rs)

module _ (station samples asked : List ℕ) (st : Station) (rows : List Sample) (n : ℕ) (c : Course) (reads : station_file station ≡ accepted st) (rows_are : placed (sample_file samples) ≡ accepted rows)
    (asks : seconds_asked asked ≡ accepted n) (b : Before st (value_or no_run (start st)) n c) where
  given : some_file_gives st ≡ true
  given = (read-is-right station st reads).0

  pub started-run : c.run ≡ start_record st
  started-run = b.run_is ∙ rw (start-accepted st given)

  done-is : c.run.done ≡ 0
  unfolding start_record
  done-is = ap (λ (r : Run). r.done) started-run

  accepts : source_rows c.source samples ≡ all_read rows
  accepts = b.rows samples ∙ answer-all (file_rows samples) rows (file-answer samples ∙ rows_are)

  right : AllRight (inputs_all (c.source.now ∷ rows))
  right =
      let sr = start_right c.source b.now-is b.ahead-is in
      more (record { load-most = sr.force.load; solar-most = sr.force.solar; sheddable-most = sr.force.sheddable; sheddable-load = sr.force.agrees }) (rows_right (subst RowsRight (ap (λ (r : RowsRead). r.rows) accepts) (source-rows-right c.source samples sr.ahead)))

  pub started-coming : Coming c samples (held_from c.source.now rows c.run.done c.left)
  started-coming =
      record {
        ready = record {
          station-given = rw b.station-is given;
          tables = rw b.station-is (tables-of (read-is-right station st reads).1);
          record-possible = rw (b.station-is, started-run) (start-possible st given);
          in-time = (let most = asked-most asked n (sym asks) in let z = b.left_is in omega (arith, most, z, done-is));
        };
        rows = rows;
        accepts = accepts;
        right = right;
        are = refl;
      }
