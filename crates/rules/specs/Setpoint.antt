-- Document 01, step 9: the reserve, what is wanted, and the filter, in double precision.
use Rattle.std.specs.Prelude.{ℕ, ◌+◌, ◌-◌, ◌*◌, ◌/◌, max, Bool, pos, eqb, Float, if◌then◌else◌, Some, None, Option}
use Rattle.std.specs.Float.{binary64}
use Rattle.std.specs.Float.Ieee.{add, mul, div, le, of_int}
use Rattle.rules.specs.declared.station.Control.{Control}
use Rattle.rules.specs.declared.run.Filter.{Filter}

-- "Coverage = solar on load x coverage % / 100, rounded up."
unfoldable pub coverage_of : Control → ℕ → ℕ
coverage_of c solar = (solar * c.coverage + 99) / 100

-- "Reserve = max(0, max(spinning, coverage) - live), or with maintain 1 max(spinning, max(0, coverage - live))."
unfoldable pub reserve : Control → ℕ → ℕ → ℕ
reserve c solar live =
    if eqb c.maintain 1
    then max c.spinning (coverage_of c solar - live)
    else max c.spinning (coverage_of c solar) - live

-- "Live = H - off"; "Wanted = R + reserve."
unfoldable pub wanted_for : Control → ℕ → ℕ → ℕ → ℕ → ℕ
wanted_for c rest solar off sheddable = rest + reserve c solar (sheddable - off)

-- ---- "in double precision: two quotients, two products, one sum, each rounded once"

-- a whole number as a double
unfoldable pub float : ℕ → Float
float n = of_int binary64 (pos n)

-- n / 1000
unfoldable pub thousandths : ℕ → Float
thousandths n = div binary64 (float n) (float 1000)

-- "The filter's two weights and its held number are kept together."
unfoldable pub filter_of : ℕ → Float → Filter
filter_of k held = record { oldweight = thousandths k; newweight = thousandths (1000 - k); held = held }

-- "held x (k/1000) + wanted x ((1000-k)/1000)"
unfoldable pub filtered : Filter → Float → Filter
filtered f wanted =
    record {
      oldweight = f.oldweight;
      newweight = f.newweight;
      held = add binary64 (mul binary64 f.held f.oldweight) (mul binary64 wanted f.newweight);
    }

-- "With none held, held becomes wanted"
unfoldable pub held_after : ℕ → Option Float → ℕ → Float
held_after k None wanted = float wanted
held_after k (Some held) wanted = (filtered (filter_of k held) (float wanted)).held

-- step 10: "It covers when held <= capacity"
unfoldable pub covers : Float → ℕ → Bool
covers held cap = le held (float cap)
