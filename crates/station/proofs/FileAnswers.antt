-- What a caller learns from the reader's answer: the file gives the record, which is in rule, or it is refused. Assumes nothing.
use Rattle.std.specs.Prelude.{Ok, Err, Result}
use Prim.Native.Nat.{ℕ}
use mathlib.Core.Path.{◌≡◌, sym, ap, ◌∙◌}
use mathlib.Core.Bool.{true}
use mathlib.Core.List.{List}
use Rattle.rules.specs.declared.answers.Refusal.{Refusal}
use Rattle.rules.specs.declared.station.Station.{Station}
use Rattle.rules.specs.Answers.{accepted, refusal_of, result_of}
use Rattle.rules.specs.StationRecord.{some_file_gives}
use Rattle.rules.specs.StationFile.{station_file}
use Rattle.rules.proofs.Shapes.{Shaped}
use Rattle.rules.proofs.StationRead.{read-is-right}

module _ (s : List ℕ) (v : Result Station Refusal) (read : result_of v ≡ station_file s) where
  module _ (st : Station) (passed : v ≡ Ok st) where
    pub file-gives : station_file s ≡ accepted st
    file-gives = sym read ∙ ap result_of passed

    pub record-right : (some_file_gives st ≡ true) × Shaped st
    record-right = read-is-right s st file-gives

  pub file-refused : (r : Refusal) → v ≡ Err r → station_file s ≡ refusal_of r
  file-refused r e = sym read ∙ ap result_of e
