-- THE CLAIM, of every list of calls from the start of a station that some file gives, each of which owes what the rules say. Assumes
-- nothing.
use mathlib.Core.Path.{◌≡◌}
use mathlib.Core.Bool.{true}
use mathlib.Core.List.{List}
use Rattle.rules.specs.declared.station.Station.{Station}
use Rattle.rules.specs.declared.run.Run.{Run}
use Rattle.rules.specs.StationRecord.{some_file_gives}
use Rattle.rules.specs.RunRecord.{start_record}
use Rattle.rules.specs.Calls.{Call, Chained}
use Rattle.rules.proofs.Shapes.{Tables}
use Rattle.rules.proofs.Start.{start-possible}
use Rattle.claims_rules.specs.Claim.{ruled, Claim}
use Rattle.claims_rules.proofs.OverRows.{over-rows, last-record}
use Rattle.claims_rules.proofs.Calls.{Owes, AfterCalls, gone}

pub claim : (st : Station) → some_file_gives st ≡ true → Tables st → (cs : List Call) (last : Run) → Chained (Owes st) (start_record st) cs last → Claim st (start_record st) cs last
unfolding ruled
claim st given tables cs last calls =
    let g : AfterCalls st given tables (start_record st) cs last = gone st given tables (start-possible st given) calls in
    record {
      as-ruled = g.ruled;
      kept = g.kept;
      over-rows = rw g.shows (over-rows st given tables g.inputs last g.steps);
      last-record = rw g.shows (last-record st given tables g.inputs last g.steps);
    }
