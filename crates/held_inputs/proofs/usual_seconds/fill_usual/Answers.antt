-- `held_inputs::usual_seconds::fill_usual` meets its contract: whatever filling had come to its call has come to the loop's turn. Assumes nothing.
use native.Mathlib.Omega.{arith}
use Rattle.usual_rows.specs.Usual.{UsualLater}
use Rattle.held_inputs.proofs.UsualSeconds.{none_told, second-told, row_told}
use Rattle.held_inputs.proofs.usual_seconds.fill_usual.Goals as goal

pub loop-i-init : goal.loop-i-init
loop-i-init c = none_told _ _ _ c.args.chunk.now c.args.loads.now c.args.solars.now c.args.sheddables.now

pub overflow_add-first : goal.overflow_add-first
overflow_add-first c = record { fits = omega (arith, c.requires.0, c.requires.1, c.loop-i-test.true, c.well_formed.1.1.1.1.1.1.0) }

pub offset_bounds-loads-i : goal.offset_bounds-loads-i
offset_bounds-loads-i c = record { fits = omega (arith, c.requires.1, c.loop-i-test.true, c.well_formed.1.1.1.1.1.1.0) }

pub bounds-loads-i : goal.bounds-loads-i
bounds-loads-i c = omega (arith, c.requires.1, c.loop-i-test.true, c.loop-i.invariant.same_loads)

pub offset_bounds-solars-i : goal.offset_bounds-solars-i
offset_bounds-solars-i c = record { fits = omega (arith, c.requires.1, c.loop-i-test.true, c.well_formed.1.1.1.1.1.1.0) }

pub bounds-solars-i : goal.bounds-solars-i
bounds-solars-i c = omega (arith, c.requires.1, c.loop-i-test.true, c.loop-i.invariant.same_solars)

pub offset_bounds-sheddables-i : goal.offset_bounds-sheddables-i
offset_bounds-sheddables-i c = record { fits = omega (arith, c.requires.1, c.loop-i-test.true, c.well_formed.1.1.1.1.1.1.0) }

pub bounds-sheddables-i : goal.bounds-sheddables-i
bounds-sheddables-i c = omega (arith, c.requires.1, c.loop-i-test.true, c.loop-i.invariant.same_sheddables)

pub loop-i-preserved-then-first-i : goal.loop-i-preserved-then-first-i
loop-i-preserved-then-first-i c =
    let a = c.args in
    second-told _ a.first a.places a.chunk.now a.loads.now a.solars.now a.sheddables.now a.rows.columns c.loop-i.line c.loop-i.now c.loop-i.row c.loop-i.next c.loop-i.i c.loop-i.loads c.loop-i.solars c.loop-i.sheddables c.loop-i.invariant (omega (arith, c.if-first-i.true)) c.loop-i-test.true

pub shape_of-loads-in_default : goal.shape_of-loads-in_default
shape_of-loads-in_default c = c.loop-i.invariant.same_loads

pub shape_of-solars-in_default : goal.shape_of-solars-in_default
shape_of-solars-in_default c = c.loop-i.invariant.same_solars

pub shape_of-sheddables-in_default : goal.shape_of-sheddables-in_default
shape_of-sheddables-in_default c = c.loop-i.invariant.same_sheddables

pub returns-in_default : goal.returns-in_default
returns-in_default c = rw c.fill_state_at.ensures c.loop-i.invariant

pub loop-i-smaller : goal.loop-i-smaller
loop-i-smaller c =
    let a = c.args in
    let u : UsualLater a.rows.columns c.loop-i.row.at a.chunk.now c.loop-i.next c.in-Some.later.sample c.in-Some.later.next = rw c.in-Some.is at c.usual_later.ensures in
    omega (arith, u.right.onward, u.right.within)

pub loop-i-preserved : goal.loop-i-preserved
loop-i-preserved c =
    let a = c.args in
    let u : UsualLater a.rows.columns c.loop-i.row.at a.chunk.now c.loop-i.next c.in-Some.later.sample c.in-Some.later.next = rw c.in-Some.is at c.usual_later.ensures in
    rw c.next_line-line.ensures (row_told _ a.first a.places a.chunk.now a.loads.now a.solars.now a.sheddables.now a.rows.columns c.loop-i.line c.loop-i.now c.loop-i.row c.loop-i.next c.loop-i.i c.loop-i.loads c.loop-i.solars c.loop-i.sheddables c.loop-i.invariant (omega (arith, c.if-first-i.false)) c.in-Some.later.sample c.in-Some.later.next u)

pub shape_of-loads : goal.shape_of-loads
shape_of-loads c = c.loop-i.invariant.same_loads

pub shape_of-solars : goal.shape_of-solars
shape_of-solars c = c.loop-i.invariant.same_solars

pub shape_of-sheddables : goal.shape_of-sheddables
shape_of-sheddables c = c.loop-i.invariant.same_sheddables

pub returns : goal.returns
returns c = rw c.fill_state_at-2.ensures c.loop-i.invariant
