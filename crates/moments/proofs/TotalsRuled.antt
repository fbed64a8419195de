-- Of a possible record the station totals with a second's watts are the rules' own: each fits its type. Assumes nothing.
use Rattle.std.proofs.Common.{◌≡◌, ◌+◌, ◌≤◌, arith}
use Rattle.rules.specs.Quantities.{Totals}
use Rattle.rules.specs.Quantities.{Watts}
use Rattle.rules.specs.Second.{plus}
use Rattle.set_moves.proofs.Fits.{small64}
use Rattle.moments.specs.Totals.{plus_in, SmallTotals}

pub plus-small : (t : Totals) (w : Watts) → SmallTotals t → (w.offered ≤ 50_000_000) × (w.load ≤ 50_000_000) × (w.shed ≤ 50_000_000) × (w.solar ≤ 50_000_000) × (w.charge ≤ 50_000_000) × (w.spill ≤ 50_000_000) × (w.give ≤ 50_000_000) × (w.diesel ≤ 50_000_000) × (w.unserved ≤ 50_000_000)
    → plus_in t w ≡ plus t w
plus-small t w a b =
    rw (
      small64 (t.offered + w.offered) (omega (arith, a.offered, b.0)),
      small64 (t.load + w.load) (omega (arith, a.load, b.1)),
      small64 (t.shed + w.shed) (omega (arith, a.shed, b.2)),
      small64 (t.solar + w.solar) (omega (arith, a.solar, b.3)),
      small64 (t.charge + w.charge) (omega (arith, a.charge, b.4)),
      small64 (t.spill + w.spill) (omega (arith, a.spill, b.5)),
      small64 (t.give + w.give) (omega (arith, a.give, b.6)),
      small64 (t.diesel + w.diesel) (omega (arith, a.diesel, b.7)),
      small64 (t.unserved + w.unserved) (omega (arith, a.unserved, b.8)),
    )
