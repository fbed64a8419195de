-- Document 01, steps 2 and 6: the capacity of a mask, and the power that each of its sets takes.
use Rattle.std.specs.Prelude.{ℕ, suc, ◌-◌, ◌*◌, ◌/◌, List, if◌then◌else◌}
use Rattle.rules.specs.declared.station.GenSet.{GenSet}
use Rattle.rules.specs.Numbers.{has, sum_to}
use Rattle.rules.specs.StationRecord.{set_at}

-- "running total C of ratings": those of the first n places' sets that the mask has
unfoldable pub running_total : List GenSet → ℕ → ℕ → ℕ
running_total sets mask n = sum_to n (λ i. if has mask i then (set_at sets i).rating else 0)

-- "cap = ratings of the sets On"; of a configuration "its sets' ratings summed"
unfoldable pub capacity : List GenSet → ℕ → ℕ
capacity sets mask = running_total sets mask 8

-- "each takes diesel x C / cap less the same at the set before"
unfoldable pub share : List GenSet → ℕ → ℕ → ℕ → ℕ
share sets mask diesel i =
    diesel * running_total sets mask (suc i) / capacity sets mask - diesel * running_total sets mask i / capacity sets mask
