-- `records::decided::decided_possible` meets its contract: the loop asks each amount once. Assumes nothing.
use Rattle.std.specs.Prelude.{if◌then◌else◌}
use Prim.Native.Nat.{ℕ}
use mathlib.Core.Path.{◌≡◌}
use mathlib.Core.Bool.{Bool}
use mathlib.Core.List.{List}
use lib.Dec.{leb, ltb}
use lib.ListN.{get_or}
use Rattle.rules.specs.Numbers.{all_to}
use Rattle.records.proofs.decided.decided_possible.Given as goal

abbrev pub amount_possible : ℕ → List ℕ → ℕ → Bool
amount_possible delay amounts j = leb (get_or amounts j 0) (if ltb j delay then 50_000_000 else 0)

abbrev pub invariant-loop-i : goal.invariant-loop-i
invariant-loop-i l = l.possible ≡ all_to l.i (amount_possible l.delay l.decided)
