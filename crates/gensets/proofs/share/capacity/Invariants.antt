-- `gensets::share::capacity` meets its contract: the sum is that of the sets before the place the walk is at, and small, since no
-- rating exceeds 32 bits. Assumes nothing.
use Prim.Native.Nat.{◌*◌, ◌≤◌}
use mathlib.Core.Path.{◌≡◌}
use Rattle.rules.specs.Share.{running_total}
use Rattle.words.specs.Masks.{next_set}
use Rattle.words.proofs.Walk.{Standing}
use Rattle.gensets.proofs.share.capacity.Given as goal

abbrev pub invariant-loop-place : goal.invariant-loop-place
invariant-loop-place l =
    let at = next_set l.mask l.place-iterator.from in
    record {
      stands : Standing l.mask l.place-iterator;
      summed : l.sum ≡ running_total l.sets l.mask at;
      small : l.sum ≤ at * 4_294_967_295;
    }
