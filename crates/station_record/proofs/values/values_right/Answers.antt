-- `station_record::values::values_right` meets its contract. Assumes nothing.
use mathlib.Core.Path.{sym, ◌∙◌}
use Rattle.std.proofs.lemmas.Result.{err_from_is_err_and}
use Rattle.station_record.proofs.Orders.{control-first, battery-next, sets-next, configurations-last}
use Rattle.station_record.proofs.values.values_right.Goals as goal

pub returns-then-not-control_right : goal.returns-then-not-control_right
returns-then-not-control_right c =
    let a = c.args in
    control-first a.st (sym c.control_right.ensures ∙ c.if-not-control_right.true)

pub returns-then-not-battery_right : goal.returns-then-not-battery_right
returns-then-not-battery_right c =
    let a = c.args in
    battery-next a.st (sym c.control_right.ensures ∙ c.if-not-control_right.false) (sym c.battery_right.ensures ∙ c.if-not-battery_right.true)

pub returns-in_err-sets_right : goal.returns-in_err-sets_right
returns-in_err-sets_right c =
    let a = c.args in
    let p = err_from_is_err_and c.from_residual.result c.from_residual.ensures.1 in
    rw (p.1, p.2) (sets-next a.st (sym c.control_right.ensures ∙ c.if-not-control_right.false) (sym c.battery_right.ensures ∙ c.if-not-battery_right.false) _ c.sets_right.ensures _ c.in_err-sets_right.was)

pub returns : goal.returns
returns c =
    let a = c.args in
    c.configurations_right.ensures ∙ configurations-last a.st (sym c.control_right.ensures ∙ c.if-not-control_right.false) (sym c.battery_right.ensures ∙ c.if-not-battery_right.false) _ c.sets_right.ensures c.in_ok-sets_right.was
