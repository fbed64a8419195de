-- `words::masks::Places` walks on: the next place is not before the one it stands at. Assumes nothing.
use Prim.Native.Nat.{◌≤◌}
use borrow.Author.Rules.{rules}
use Rattle.words.proofs.Walk.{forward}
use Rattle.words.proofs.masks.PlacesIterator.next.Goals as goal

pub returns-clause-goes : goal.returns-clause-goes
returns-clause-goes c =
    let on : c.args.self.now.from ≤ c.next_set-place.result = forward _ _ _ c.next_set-place.ensures in
    search rules
