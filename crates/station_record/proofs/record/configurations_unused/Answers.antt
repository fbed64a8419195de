-- `station_record::record::configurations_unused` meets its contract: the loop asks each place once. Assumes nothing.
use borrow.Author.Rules.{rules}
use mathlib.Core.Path.{refl}
use native.Mathlib.Omega.{arith}
use lib.Dec.{eqb}
use lib.ListN.{drop}
use Rattle.rules.specs.Numbers.{all_zero}
use Rattle.rules.proofs.Tests.{every-turn, every-end}
use Rattle.station_record.proofs.record.configurations_unused.Goals as goal

pub loop-i-init : goal.loop-i-init
loop-i-init c = (search rules, refl)

pub loop-i-preserved : goal.loop-i-preserved
loop-i-preserved c =
    let a = c.args in
    let i = c.loop-i.invariant in
    (i.0, every-turn (λ x. eqb x 0) a.configs c.loop-i.i (all_zero (drop a.from a.configs)) c.loop-i.unused i.1 0 _ (omega (arith, i.0)) refl)

pub returns : goal.returns
returns c =
    let a = c.args in
    let i = c.loop-i.invariant in
    every-end (λ x. eqb x 0) a.configs c.loop-i.i (all_zero (drop a.from a.configs)) c.loop-i.unused i.1 (omega (arith, i.0))
