-- `steady::steady_counts::made` meets its contract. Assumes nothing.
use Rattle.modes.proofs.Filled.{Filling}
use Rattle.steady.specs.Steady.{steady_at, Makeable}
use Rattle.steady.proofs.steady_counts.made.Given as goal

abbrev pub invariant-loop-i : goal.invariant-loop-i
invariant-loop-i l = Makeable l.initial.out l.mask l.seconds l.added × Filling (steady_at l.initial.out l.mask l.seconds l.added) l.initial.out 8 l.i l.out
