-- `write_commaed` meets its contract. The invariant: the bytes before `at`, and the numbers so far, each with its comma, stand at the
-- buffer's front. Assumes nothing.
use Prim.Native.Nat.{◌+◌, ◌≤◌}
use mathlib.Core.Path.{◌≡◌}
use mathlib.Core.List.{◌++◌}
use lib.ListN.{length, take}
use Rattle.decimals.specs.Commaed.{commaed}
use Rattle.texts.specs.Placed.{Front}
use Rattle.decimals.proofs.numbers.write_commaed.Given as goal

abbrev pub invariant-loop-number : goal.invariant-loop-number
invariant-loop-number l =
    (l.at + length (commaed l.numbers) ≤ length l.initial.buffer)
    × (length l.buffer ≡ length l.initial.buffer)
    × (l.end ≡ l.at + length (commaed (take l.number-index l.numbers)))
    × (l.end ≤ length l.buffer)
    × Front l.initial.buffer (take l.at l.initial.buffer ++ commaed (take l.number-index l.numbers)) l.end l.buffer
