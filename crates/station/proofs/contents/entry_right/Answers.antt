-- `station::contents::entry_right` meets its contract. Assumes nothing.
use Prim.Native.Nat.{◌+◌, ◌*◌}
use mathlib.Core.Path.{◌≡◌}
use native.Mathlib.Omega.{arith}
use Rattle.rules.specs.StationFile.{entry_right}
use Rattle.station.proofs.contents.entry_right.Goals as goal

pub returns : goal.returns
unfolding entry_right
returns c =
    let a = c.args in
    let first : 8 * a.place + 0 ≡ 8 * a.place = omega arith in
    rw (c.number_at-2.ensures.value, c.number_at.ensures.value, c.count_at-count.ensures.value, first)
