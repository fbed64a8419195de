-- `steady::curve_table::tables_of` meets its contract. Assumes nothing.
use Rattle.words.specs.Masks.{next_set}
use Rattle.words.proofs.Walk.{Standing}
use Rattle.steady.proofs.CurveFilled.{Tabling}
use Rattle.steady.proofs.curve_table.tables_of.Given as goal

abbrev pub invariant-loop-place : goal.invariant-loop-place
invariant-loop-place l = record {
  stands : Standing l.mask l.place-iterator;
  tabling : Tabling l.sets l.mask (next_set l.mask l.place-iterator.from) l.sum l.tables;
}
