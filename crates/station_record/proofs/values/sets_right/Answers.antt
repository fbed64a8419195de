-- `station_record::values::sets_right` meets its contract. Assumes nothing.
use borrow.Author.Rules.{rules}
use mathlib.Core.Path.{◌≡◌, sym, ap, ◌∙◌}
use native.Mathlib.Omega.{arith}
use lib.ListN.{length}
use Rattle.rules.specs.StationRecord.{past_end, set_at, sets_right}
use Rattle.rules.proofs.Tables.{take-least}
use Rattle.station_record.proofs.Orders.{set-number, set-pairs, set-in-order, sets-in-order}
use Rattle.station_record.proofs.values.sets_right.Goals as goal

pub loop-i-init : goal.loop-i-init
loop-i-init c =
    let a = c.args in
    let l : length a.sets ≡ 8 = search rules in
    (omega (arith, l), ap (sets_right 0) (sym (rw (c.min-i-end.ensures, ← l) (take-least a.setcount a.sets))))

pub returns-then-not-numbers : goal.returns-then-not-numbers
unfolding set_at past_end
returns-then-not-numbers c =
    let a = c.args in
    let n = c.min-i-end.result in
    set-number a.sets n _ c.loop-i.i c.loop-i.invariant.0 c.loop-i.invariant.1 (search rules) (sym c.set_right-numbers.ensures ∙ search rules)

pub returns-then-not-pairs : goal.returns-then-not-pairs
unfolding set_at past_end
returns-then-not-pairs c =
    let a = c.args in
    let n = c.min-i-end.result in
    set-pairs a.sets n _ c.loop-i.i c.loop-i.invariant.0 c.loop-i.invariant.1 (search rules) (sym c.set_right-numbers.ensures ∙ search rules) (sym c.pairs_right-pairs.ensures ∙ search rules)

pub loop-i-preserved : goal.loop-i-preserved
unfolding set_at past_end
loop-i-preserved c =
    let a = c.args in
    let n = c.min-i-end.result in
    let fits = c.loop-i.invariant.0 in
    (fits, set-in-order a.sets n _ c.loop-i.i fits c.loop-i.invariant.1 (search rules) (sym c.set_right-numbers.ensures ∙ search rules) (sym c.pairs_right-pairs.ensures ∙ search rules))

pub returns : goal.returns
returns c =
    let a = c.args in
    let n = c.min-i-end.result in
    sets-in-order a.sets n _ c.loop-i.i c.loop-i.invariant.0 c.loop-i.invariant.1 (search rules)
