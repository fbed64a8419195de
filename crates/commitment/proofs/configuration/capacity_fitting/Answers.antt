-- `commitment::configuration::capacity_fitting` meets its contract: a mask of no sets has no capacity. Assumes nothing.
use Rattle.std.specs.Prelude.{if◌then◌else◌}
use Rattle.std.proofs.Common.{◌≡◌, ℕ, zero, suc, min, List, refl, arith}
use Rattle.rules.specs.declared.station.GenSet.{GenSet}
use Rattle.rules.specs.Numbers.{has, sum_to}
use Rattle.rules.specs.StationRecord.{set_at}
use Rattle.rules.specs.Share.{running_total, capacity}
use Rattle.rules.proofs.Tables.{has-beyond}
use Rattle.commitment.proofs.configuration.capacity_fitting.Goals as goal

none-summed : (f : ℕ → ℕ) (n : ℕ) → sum_to n (λ i. if has 0 i then f i else 0) ≡ 0
unfolding sum_to
none-summed f zero = refl
none-summed f (suc n) = rw (none-summed f n, has-beyond 0 0 n (omega arith) (omega arith))

none-capacity : (sets : List GenSet) (mask : ℕ) → mask ≡ 0 → 0 ≡ min (capacity sets mask) 4_294_967_295
unfolding capacity running_total
none-capacity sets mask e =
    let z : capacity sets 0 ≡ 0 = none-summed (λ i. (set_at sets i).rating) 8 in
    rw (e, z)

pub returns-then-mask-eq0 : goal.returns-then-mask-eq0
returns-then-mask-eq0 c = none-capacity _ _ c.if-mask-eq0.true
