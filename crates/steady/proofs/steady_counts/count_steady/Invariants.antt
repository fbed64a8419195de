-- `steady::steady_counts::count_steady` meets its contract. Assumes nothing.
use Rattle.words.specs.Masks.{next_set}
use Rattle.words.proofs.Walk.{Standing}
use Rattle.steady.proofs.Adding.{Adding}
use Rattle.steady.proofs.steady_counts.count_steady.Given as goal

abbrev pub invariant-loop-place : goal.invariant-loop-place
invariant-loop-place l = record {
  stands : Standing l.mask l.place-iterator;
  adding : Adding l.fn.sets l.mask l.diesel l.cap l.initial.added (next_set l.mask l.place-iterator.from) l.given l.added;
}
