-- The words so far are tallied, and the next word begins. Assumes nothing.
use Rattle.std.proofs.Common.{◌≡◌, ◌%◌, drop}
use Rattle.tally.specs.Tally.{tallied_of, bytes_of}
use Rattle.tally.proofs.with_words.Given as goal

abbrev pub invariant-loop-word : goal.invariant-loop-word
invariant-loop-word l = l.fn.before.count % 4 ≡ 0 → (tallied_of l.fn.before (bytes_of l.words) ≡ tallied_of l.tally (bytes_of (drop l.word-index l.words))) × (l.tally.count % 4 ≡ 0)
