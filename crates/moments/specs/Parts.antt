-- A run's record in parts: the sets' states and the decided amounts, which stand in arrays of their own, and the numbers beside them.
use Rattle.std.specs.Prelude.{ℕ, ◌+◌, List, count_ones, Float, Some}
use Rattle.rules.specs.declared.run.Row.{Row}
use Rattle.rules.specs.declared.run.Run.{Run}
use Rattle.rules.specs.declared.run.SetState.{SetState}
use Rattle.rules.specs.Quantities.{Watts}
use Rattle.rules.specs.Configuration.{since_after}
use Rattle.set_moves.specs.InType.{in32}
use Rattle.moments.specs.declared.parts.Moment.{Moment}
use Rattle.moments.specs.Totals.{plus_in}

-- the whole record
abbrev pub run_of : Moment → List SetState → List ℕ → Run
run_of m states decided =
    record {
      done = m.done;
      since = m.since;
      called = m.called;
      store = m.store;
      setpoint = m.setpoint;
      sets = states;
      decided = decided;
      totals = m.totals;
    }

-- the record after a second but for its arrays, by what it called, held, stored and met
abbrev pub moment_after : Moment → ℕ → Float → ℕ → Watts → Moment
moment_after m call held store w =
    record {
      done = in32 (m.done + 1);
      since = since_after call m.called m.since m.done;
      called = call;
      store = store;
      setpoint = Some held;
      totals = plus_in m.totals w;
    }

-- and its row
abbrev pub row_of : ℕ → Watts → ℕ → ℕ → ℕ → Row
row_of second w on call store = record { second = second; watts = w; on = on; sets = count_ones on; call = call; store = store }
