-- `station::bodies::record_of` meets its contract. Assumes nothing.
use Prim.Native.Nat.{ℕ, ◌-◌}
use mathlib.Core.Path.{ap, ap₂, ◌∙◌}
use mathlib.Core.List.{◌++◌}
use native.Mathlib.Omega.{arith}
use lib.ListN.{drop, replicate}
use Rattle.rules.specs.Bytes.{littles}
use Rattle.rules.specs.StationRecord.{no_set}
use Rattle.rules.specs.StationFile.{configs_offset, sets_of, record_of}
use Rattle.station.proofs.ContentsOrder.{contents-fit}
use Rattle.station.proofs.bodies.record_of.Goals as goal

pub count_at-setcount-requires : goal.count_at-setcount-requires
count_at-setcount-requires c = let s = c.args.s.now in let f = contents-fit s c.requires in (omega (arith, f.2), omega arith)

pub count_at-configcount-requires : goal.count_at-configcount-requires
count_at-configcount-requires c = let f = contents-fit c.args.s.now c.requires in (omega (arith, f.2), omega arith)

pub control_of-control-requires : goal.control_of-control-requires
control_of-control-requires c = (contents-fit c.args.s.now c.requires).2

pub battery_of-battery-requires : goal.battery_of-battery-requires
battery_of-battery-requires c = (contents-fit c.args.s.now c.requires).2

pub sets_of-sets-requires : goal.sets_of-sets-requires
sets_of-sets-requires c =
    let f = contents-fit c.args.s.now c.requires in
    let e = c.count_at-setcount.ensures.value in
    (rw e f.0, rw e (omega (arith, f.3)))

pub configurations_of-configs-requires : goal.configurations_of-configs-requires
configurations_of-configs-requires c =
    let f = contents-fit c.args.s.now c.requires in
    (rw c.count_at-configcount.ensures.value f.1, rw (c.count_at-configcount.ensures.value, c.count_at-setcount.ensures.value) (omega (arith, f.3)))

pub returns : goal.returns
unfolding record_of
returns c =
    let s = c.args.s.now in
    let sets-read = c.count_at-setcount.ensures.value in
    let configs-read = c.count_at-configcount.ensures.value in
    let sets = c.sets_of-sets.ensures ∙ ap (λ (k : ℕ). sets_of k (drop 100 s) ++ replicate (8 - k) no_set) sets-read in
    let configs = c.configurations_of-configs.ensures ∙ ap₂ (λ (j k : ℕ). littles 1 k (drop (configs_offset j) s) ++ replicate (64 - k) 0) sets-read configs-read in
    λ i. record {
      control = c.control_of-control.ensures i;
      battery = c.battery_of-battery.ensures i;
      setcount = sets-read i;
      configcount = configs-read i;
      sets = sets i;
      configs = configs i;
    }
