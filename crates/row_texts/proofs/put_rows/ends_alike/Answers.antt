-- `ends_alike` meets its contract. Assumes nothing.
use Prim.Native.Nat.{ℕ, ◌+◌, ◌-◌, ◌≤◌}
use mathlib.Core.Path.{◌≡◌}
use mathlib.Core.List.{List}
use native.Mathlib.Omega.{arith}
use lib.ListN.{take, drop}
use Rattle.std.proofs.lemmas.Bool.Decides.{Decides-eqb}
use Rattle.std.proofs.lemmas.Slice.Eq.{slice_eq-Decides}
use Rattle.rules.proofs.Tests.{never}
use Rattle.row_texts.proofs.put_rows.ends_alike.Goals as goal

all-five : (xs : List ℕ) (start : ℕ) → 13 ≤ start → take (start + 13 - (start + 8)) (drop (start + 8) xs) ≡ take (start - (start - 5)) (drop (start - 5) xs)
    → take 5 (drop (start + 8) xs) ≡ take 5 (drop (start - 5) xs)
all-five xs start least same =
    let a : start + 13 - (start + 8) ≡ 5 = omega arith in
    let b : start - (start - 5) ≡ 5 = omega arith in
    rw (a, b) at same

pub returns-then-start-lt-ROW_COLUMNS : goal.returns-then-start-lt-ROW_COLUMNS
returns-then-start-lt-ROW_COLUMNS c e = never e

pub returns : goal.returns
returns c e =
    let least = c.if-start-lt-ROW_COLUMNS.false in
    (least, all-five c.args.numbers.now c.args.start least ((slice_eq-Decides Decides-eqb _ _ _ c.eq.ensures).0 e))
