-- `station::numbers::word_at` meets its contract. Assumes nothing.
use Prim.Native.Nat.{◌+◌}
use native.Mathlib.Omega.{arith}
use Rattle.station.proofs.Reading.{four_bytes}
use Rattle.station.proofs.numbers.word_at.Goals as goal

pub returns : goal.returns
returns c =
    let a = c.args in
    rw c.requires.1 (omega (arith, c.from_le_bytes.ensures, four_bytes a.s.now (a.body + a.row.offset) (omega (arith, c.requires.0, c.requires.1))))
