-- No sum passes what so many bytes of 255 can make. Assumes nothing.
use Rattle.std.proofs.Common.{◌+◌, ◌*◌, ◌≤◌}
use Rattle.measure_seconds.proofs.row_bytes.RowBytes.with.Given as goal

abbrev pub invariant-loop-byte : goal.invariant-loop-byte
invariant-loop-byte l = (l.low ≤ 65520 + 255 * l.byte-index) × (l.high ≤ 65520 + 20000000 * l.byte-index)
