-- `samples::check::feed` meets its contract. Assumes nothing.
use Prim.Native.Nat.{ℕ, ◌-◌, ◌≤◌}
use mathlib.Core.List.{List, ◌++◌}
use mathlib.Core.Path.{◌≡◌}
use lib.ListN.{length, drop}
use Rattle.sample_rows.specs.Streamed.{yet_to_come}
use Rattle.samples.specs.Streamed.{spanned}
use Rattle.samples.proofs.check.feed.Given as goal

abbrev pub invariant-loop-at : goal.invariant-loop-at
invariant-loop-at l = (l.at ≤ length l.chunk) × ((rest : List ℕ) → spanned l.initial.span (yet_to_come (record { line = l.line; len = l.initial.len; stage = l.initial.stage }) (l.chunk ++ rest)) ≡ spanned l.span (yet_to_come (record { line = l.line; len = l.len; stage = l.stage }) (drop l.at l.chunk ++ rest)))

abbrev pub decreases-loop-at : goal.decreases-loop-at
decreases-loop-at l = length l.chunk - l.at
