-- `held_inputs::fill::fill_seconds` meets its contract: the seconds so far are told, and the others are told by what is left. Assumes nothing.
use mathlib.Core.Path.{refl, sym, ap, ◌∙◌}
use native.Mathlib.Omega.{arith}
use Rattle.held_inputs.specs.declared.usual_seconds.FillState.{FillState}
use Rattle.rows_in_force.specs.Held.{reader_at}
use Rattle.held_inputs.specs.Filling.{filled_at}
use Rattle.sample_rows.proofs.LineLaws.{kept_on}
use Rattle.held_inputs.proofs.FillLaws.{filling-start, filling-more, filled, filled-short}
use Rattle.held_inputs.proofs.fill.fill_seconds.Goals as goal

pub loop-told-init : goal.loop-told-init
loop-told-init c =
    let a = c.args in
    (rw (c.min-places.ensures, c.min.ensures), rw c.fill_begun-told.ensures (filling-start a.source a.first a.chunk.now a.at a.loads.now a.solars.now a.sheddables.now _ c.min-2.ensures))

pub usual_seconds-usual-requires : goal.usual_seconds-usual-requires
usual_seconds-usual-requires c =
    let l = c.loop-told.invariant in
    (c.requires.0, omega (arith, l.0, l.1.kept_loads.size, l.1.kept_solars.size, l.1.kept_sheddables.size))

pub shape_of-loads-then-places-i : goal.shape_of-loads-then-places-i
shape_of-loads-then-places-i c = c.usual_seconds-usual.ensures.same_loads ∙ c.loop-told.invariant.1.kept_loads.size

pub shape_of-solars-then-places-i : goal.shape_of-solars-then-places-i
shape_of-solars-then-places-i c = c.usual_seconds-usual.ensures.same_solars ∙ c.loop-told.invariant.1.kept_solars.size

pub shape_of-sheddables-then-places-i : goal.shape_of-sheddables-then-places-i
shape_of-sheddables-then-places-i c = c.usual_seconds-usual.ensures.same_sheddables ∙ c.loop-told.invariant.1.kept_sheddables.size

pub returns-then-places-i : goal.returns-then-places-i
returns-then-places-i c =
    let a = c.args in
    let g = c.usual_seconds-usual.ensures.filling a.source a.at a.loads.now a.solars.now a.sheddables.now a.source.reader.line c.loop-told.invariant.0 (rw c.fill_begun-told.ensures at c.loop-told.invariant.1) in
    rw c.filled_at.ensures (filled a.source a.first a.chunk.now a.at a.loads.now a.solars.now a.sheddables.now _ _ _ _ g c.requires.1 (omega (arith, c.if-places-i.true, c.loop-told.invariant.0)))

pub overflow_add-first : goal.overflow_add-first
overflow_add-first c = record { fits = omega (arith, c.requires.0, c.loop-told.invariant.0, c.if-places-i.false, c.well_formed.1.1.1.1.0) }

pub filled_short-requires : goal.filled_short-requires
filled_short-requires c = c.reach-reached.ensures.within

pub shape_of-loads-then-is_unread : goal.shape_of-loads-then-is_unread
shape_of-loads-then-is_unread c = c.usual_seconds-usual.ensures.same_loads ∙ c.loop-told.invariant.1.kept_loads.size

pub shape_of-solars-then-is_unread : goal.shape_of-solars-then-is_unread
shape_of-solars-then-is_unread c = c.usual_seconds-usual.ensures.same_solars ∙ c.loop-told.invariant.1.kept_solars.size

pub shape_of-sheddables-then-is_unread : goal.shape_of-sheddables-then-is_unread
shape_of-sheddables-then-is_unread c = c.usual_seconds-usual.ensures.same_sheddables ∙ c.loop-told.invariant.1.kept_sheddables.size

pub returns-then-is_unread : goal.returns-then-is_unread
returns-then-is_unread c =
    let a = c.args in
    let line = a.source.reader.line in
    let usual = c.usual_seconds-usual.result in
    let q = c.reach-reached.result in
    let m = c.filled_short.result.source.reader in
    let g = c.usual_seconds-usual.ensures.filling a.source a.at a.loads.now a.solars.now a.sheddables.now line c.loop-told.invariant.0 (rw c.fill_begun-told.ensures at c.loop-told.invariant.1) in
    let told = sym c.is_unread.ensures ∙ c.if-is_unread.true in
    let keeps = kept_on (reader_at q.begun line) m _ (c.reach-reached.ensures.further told) c.filled_short.ensures.by_index in
    rw c.filled_short.ensures.value (filled-short a.source a.first a.chunk.now a.at a.loads.now a.solars.now a.sheddables.now (filled_at usual line) _ _ _ g usual.reached.begun line refl q c.reach-reached.ensures m keeps told c.requires.1 (omega (arith, c.if-places-i.false, c.loop-told.invariant.0)))

pub second_told-told-requires : goal.second_told-told-requires
second_told-told-requires c =
    let l = c.loop-told.invariant in
    let u = c.usual_seconds-usual.ensures in
    omega (arith, c.if-places-i.false, l.0, l.1.kept_loads.size, l.1.kept_solars.size, l.1.kept_sheddables.size, u.same_loads, u.same_solars, u.same_sheddables)

pub loop-told-smaller : goal.loop-told-smaller
loop-told-smaller c = let e = ap (λ (t : FillState). t.seconds) c.second_told-told.ensures.value in omega (arith, e, c.if-places-i.false, c.usual_seconds-usual.ensures.onward)

pub loop-told-preserved : goal.loop-told-preserved
loop-told-preserved c =
    let a = c.args in
    let line = a.source.reader.line in
    let usual = c.usual_seconds-usual.result in
    let from = (filled_at c.fill_begun-told.result line).source in
    let g = c.usual_seconds-usual.ensures.filling from a.at a.loads.now a.solars.now a.sheddables.now line c.loop-told.invariant.0 c.loop-told.invariant.1 in
    let s = c.second_told-told.ensures in
    (c.loop-told.invariant.0, rw (s.value, s.loads_after.0, s.loads_after.1, s.loads_after.2) (filling-more from a.first a.chunk.now a.at a.loads.now a.solars.now a.sheddables.now (filled_at usual line) _ _ _ g usual.reached.begun line refl c.reach-reached.result c.reach-reached.ensures (sym c.is_unread.ensures ∙ c.if-is_unread.false) (omega (arith, c.if-places-i.false, c.loop-told.invariant.0))))

pub shape_of-loads : goal.shape_of-loads
shape_of-loads c = c.loop-told.invariant.1.kept_loads.size

pub shape_of-solars : goal.shape_of-solars
shape_of-solars c = c.loop-told.invariant.1.kept_solars.size

pub shape_of-sheddables : goal.shape_of-sheddables
shape_of-sheddables c = c.loop-told.invariant.1.kept_sheddables.size

pub returns : goal.returns
returns c =
    let a = c.args in
    rw c.filled_at-2.ensures (filled a.source a.first a.chunk.now a.at a.loads.now a.solars.now a.sheddables.now _ _ _ _ (rw c.fill_begun-told.ensures at c.loop-told.invariant.1) c.requires.1 (omega (arith, c.loop-told-test.false, c.loop-told.invariant.0)))
