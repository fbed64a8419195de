-- The bytes so far are tallied. Assumes nothing.
use Rattle.std.proofs.Common.{◌≡◌, drop}
use Rattle.tally.specs.Tally.{tallied_of}
use Rattle.tally.proofs.with_bytes.Given as goal

abbrev pub invariant-loop-byte : goal.invariant-loop-byte
invariant-loop-byte l = tallied_of l.fn.before l.bytes ≡ tallied_of l.tally (drop l.byte-index l.bytes)
