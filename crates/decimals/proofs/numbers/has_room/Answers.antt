-- `has_room` meets its contract. Assumes nothing.
use Prim.Native.Nat.{ℕ, ◌+◌, ◌-◌, ◌*◌, ◌/◌, ◌≤◌, ◌<◌}
use mathlib.Core.Path.{◌≡◌, sym, ◌∙◌}
use native.Mathlib.Omega.{arith}
use native.Mathlib.Decide.{dec_lt}
use lib.Dec.{leb}
use borrow.Author.Tests.{le-leb, lt-leb}
use Rattle.decimals.proofs.numbers.has_room.Goals as goal

from_place : (count at size : ℕ) → at ≤ size → leb count ((size - at) / 21) ≡ leb (at + 21 * count) size
from_place count at size h = go (dec_lt ((size - at) / 21) count)
  where
    go : Dec ((size - at) / 21 < count) → leb count ((size - at) / 21) ≡ leb (at + 21 * count) size
    go (yes l) = lt-leb count ((size - at) / 21) l ∙ sym (lt-leb (at + 21 * count) size (omega arith))
    go (no l) = le-leb count ((size - at) / 21) (omega arith) ∙ sym (le-leb (at + 21 * count) size (omega arith))

pub returns-then-size-at : goal.returns-then-size-at
returns-then-size-at c = sym (lt-leb (c.args.at + 21 * c.args.count) c.args.size (omega (arith, c.if-size-at.true)))

pub returns : goal.returns
returns c = from_place c.args.count c.args.at c.args.size c.if-size-at.false
