-- Document 01, step 7, of a lent slice: a run has sixty amounts, and a slice of any other length is left as it is.
use Rattle.std.specs.Prelude.{ℕ, max, List, length, eqb, if◌then◌else◌}
use Rattle.rules.specs.Flows.{decided_after}

unfoldable pub decided_in : ℕ → ℕ → List ℕ → List ℕ
decided_in delay new amounts = if eqb (length amounts) 60 then decided_after (max 1 delay) amounts new else amounts
