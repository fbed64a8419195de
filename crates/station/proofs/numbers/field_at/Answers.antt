-- `station::numbers::field_at` meets its contract. Assumes nothing.
use Prim.Native.Nat.{◌+◌}
use native.Mathlib.Omega.{arith}
use borrow.Author.Rules.{rules}
use Rattle.station.proofs.Reading.{eight_bytes}
use Rattle.station.proofs.numbers.field_at.Goals as goal

pub returns : goal.returns
returns c =
    let a = c.args in
    record {
      value = rw c.requires.1 (omega (arith, c.from_le_bytes.ensures, eight_bytes a.s.now (a.body + a.row.offset) (omega (arith, c.requires.0, c.requires.1))));
      upper_bound = rw c.requires.1 (search rules);
    }
