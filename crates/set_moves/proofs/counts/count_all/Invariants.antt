-- `set_moves::counts::count_all` meets its contract. Assumes nothing.
use Rattle.std.proofs.Common.{◌≡◌, ℕ, List}
use Rattle.rules.specs.declared.run.SetState.{SetState}
use Rattle.rules.specs.declared.station.GenSet.{GenSet}
use Rattle.words.specs.Masks.{next_set}
use Rattle.words.proofs.Walk.{Standing}
use Rattle.gensets.specs.Leaves.{shares_told, watts_of}
use Rattle.modes.proofs.Filled.{Filling}
use Rattle.set_moves.specs.InType.{counted_at}
use Rattle.set_moves.proofs.counts.count_all.Given as goal

-- the sets of the first places are counted
abbrev pub Counting : List GenSet → List SetState → ℕ → ℕ → ℕ → List SetState → Type 0
Counting sets states mask diesel i out = Filling (counted_at sets states mask diesel) states 8 i out

abbrev pub invariant-loop-place : goal.invariant-loop-place
invariant-loop-place l =
    record {
      shared : l.watts ≡ watts_of (shares_told l.sets l.mask l.diesel);
      stands : Standing l.mask l.place-iterator;
      counts : Counting l.sets l.initial.out l.mask l.diesel (next_set l.mask l.place-iterator.from) l.out;
    }
