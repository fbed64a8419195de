-- `flow::flow` meets its contract. Assumes nothing.
use Rattle.rules.specs.Flows.{watts_with, watts_for}
use Rattle.laws.proofs.Balance.{takes-room}
use Rattle.flows.proofs.flow.flow.Goals as goal

pub store_after-after-requires : goal.store_after-after-requires
store_after-after-requires c =
    let a = c.args in
    rw c.battery_takes-charge.ensures (takes-room a.battery a.store _)

pub returns : goal.returns
unfolding watts_for watts_with
returns c =
    let diesel = c.before.before in
    let charge = diesel.before.before.before in
    let give = charge.before.before in
    let solar = give.before.before in (
      simp (
        c.saturating_sub-unserved.ensures,
        c.diesel_for-diesel.ensures,
        diesel.saturating_sub-left.ensures,
        diesel.saturating_sub-spill.ensures,
        charge.battery_takes-charge.ensures,
        charge.saturating_sub-surplus.ensures,
        give.battery_gives-give.ensures,
        give.saturating_sub-rest.ensures,
        solar.solar_on_load-solar.ensures,
        solar.saturating_sub-demand.ensures,
        solar.shed_now-off.ensures,
      ),
      diesel.store_after-after.ensures,
    )
