-- Document 01, "At the start": what a refused start hands back, where the rules give no record.
use Rattle.std.specs.Prelude.{ℕ, List, replicate, None}
use Rattle.rules.specs.declared.run.Mode.TheVariants.{Off}
use Rattle.rules.specs.declared.run.SetState.{SetState}
use Rattle.rules.specs.declared.run.Run.{Run}
use Rattle.rules.specs.Modes.{fresh}
use Rattle.rules.specs.RunRecord.{no_totals}

-- a store and the sets' states before the first second: "configuration 0, all counts 0", and no held setpoint
unfoldable pub at_start : ℕ → List SetState → Run
at_start store states =
    record {
      done = 0;
      since = 0;
      called = 0;
      store = store;
      setpoint = None;
      sets = states;
      decided = replicate 60 0;
      totals = no_totals;
    }

-- the record of zeros, every set Off and no setpoint
unfoldable pub no_run : Run
no_run = at_start 0 (replicate 8 (fresh Off))
