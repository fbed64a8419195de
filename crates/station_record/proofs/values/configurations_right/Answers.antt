-- `station_record::values::configurations_right` meets its contract. Assumes nothing.
use borrow.Author.Rules.{rules}
use mathlib.Core.Path.{◌≡◌, sym, ap, ◌∙◌}
use native.Mathlib.Omega.{arith}
use lib.ListN.{length}
use Rattle.rules.specs.StationRecord.{configurations_right}
use Rattle.rules.proofs.Tables.{take-least}
use Rattle.station_record.proofs.Orders.{configuration-mask, configuration-in-order, configurations-in-order}
use Rattle.station_record.proofs.values.configurations_right.Goals as goal

pub loop-i-init : goal.loop-i-init
loop-i-init c =
    let a = c.args in
    let l : length a.configs ≡ 64 = search rules in
    (omega (arith, l), ap (configurations_right a.setcount 0) (sym (rw (c.min-i-end.ensures, ← l) (take-least a.configcount a.configs))))

pub returns-then-not-configuration_right : goal.returns-then-not-configuration_right
returns-then-not-configuration_right c =
    let a = c.args in
    let n = c.min-i-end.result in
    configuration-mask a.setcount a.configs n _ c.loop-i.i c.loop-i.invariant.0 c.loop-i.invariant.1 (search rules) (sym c.configuration_right.ensures ∙ c.if-not-configuration_right.true)

pub loop-i-preserved : goal.loop-i-preserved
loop-i-preserved c =
    let a = c.args in
    let n = c.min-i-end.result in
    (c.loop-i.invariant.0, configuration-in-order a.setcount a.configs n _ c.loop-i.i c.loop-i.invariant.0 c.loop-i.invariant.1 (search rules) (sym c.configuration_right.ensures ∙ c.if-not-configuration_right.false))

pub returns : goal.returns
returns c =
    let a = c.args in
    let n = c.min-i-end.result in
    configurations-in-order a.setcount a.configs n _ c.loop-i.i c.loop-i.invariant.0 c.loop-i.invariant.1 (search rules)
