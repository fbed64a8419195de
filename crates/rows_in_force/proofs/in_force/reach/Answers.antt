-- `rows_in_force::in_force::reach` meets its contract: the row in force and the rows to come are those of the call, held as they were. Assumes nothing.
use Rattle.std.specs.Prelude.{is_some}
use mathlib.Core.Path.{sym, ap, ◌∙◌}
use native.Mathlib.Omega.{arith}
use Rattle.rows_in_force.proofs.HeldLaws.{reaching-start, reaching-more, not-reached, reached}
use Rattle.rows_in_force.proofs.in_force.reach.Goals as goal

pub loop-further-init : goal.loop-further-init
loop-further-init c = λ now ahead at least is. reaching-start _ c.args.line.now now ahead _ c.args.chunk.now at _ _ least is

pub returns-in_default : goal.returns-in_default
returns-in_default c =
    let a = c.args in
    not-reached a.told.begun a.line.now _ _ _ _ _ _ _ _ (c.loop-further.invariant a.told.now a.told.ahead a.told.next c.min-next.ensures c.comes_in-known.ensures) c.next_row-further.result c.next_row-further.ensures (sym c.is_unread.ensures ∙ c.loop-further-test.true) c.in_default.is

pub loop-further-smaller : goal.loop-further-smaller
loop-further-smaller c = let o = c.next_row-further.ensures.onward (ap is_some c.in-Some.is) in omega (arith, o, c.next_row-further.ensures.within)

pub loop-further-preserved : goal.loop-further-preserved
loop-further-preserved c =
    let a = c.args in
    λ now ahead at least is. reaching-more a.told.begun a.line.now now ahead _ _ at _ _ _ (c.loop-further.invariant now ahead at least is) c.next_row-further.result c.next_row-further.ensures (sym c.is_unread.ensures ∙ c.loop-further-test.true) _ _ c.in-Some.is c.comes_in-known-in-loop-further.ensures

pub returns : goal.returns
returns c =
    let a = c.args in
    reached a.told.begun a.line.now _ _ _ _ _ _ _ _ (c.loop-further.invariant a.told.now a.told.ahead a.told.next c.min-next.ensures c.comes_in-known.ensures) (sym c.is_unread.ensures ∙ c.loop-further-test.false)
