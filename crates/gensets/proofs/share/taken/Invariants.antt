-- `gensets::share::taken` meets its contract. Assumes nothing.
use Rattle.words.specs.Masks.{next_set}
use Rattle.words.proofs.Walk.{Standing}
use Rattle.gensets.proofs.SharesWalk.{Shared}
use Rattle.gensets.proofs.share.taken.Given as goal

abbrev pub invariant-loop-place : goal.invariant-loop-place
invariant-loop-place l = record {
  stands : Standing l.mask l.place-iterator;
  shared : Shared l.sets l.mask l.diesel l.cap l.out l.sum l.given (next_set l.mask l.place-iterator.from);
}
