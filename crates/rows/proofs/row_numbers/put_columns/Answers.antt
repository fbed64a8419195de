-- `rows::row_numbers::put_columns` meets its contract. Assumes nothing.
use borrow.Author.Rules.{rules}
use Prim.Native.Nat.{ℕ, suc, ◌+◌, ◌<◌}
use mathlib.Core.Path.{◌≡◌, refl, subst, ◌∙◌}
use mathlib.Core.List.{List}
use native.Mathlib.Omega.{arith}
use native.Mathlib.Numerals.{add-one}
use lib.ListN.{length, get_or, set, length-set}
use lib.Seq.{paste, paste-zero, paste-suc, take_all}
use Rattle.rows.proofs.row_numbers.put_columns.Goals as goal

-- one number more at the front
one_more : (rows columns : List ℕ) (i : ℕ) → i < length rows → i < length columns → set (paste rows 0 columns i) i (get_or columns i 0) ≡ paste rows 0 columns (i + 1)
one_more rows columns i a b =
    let e : 0 + i ≡ i = omega arith in
    let l : 0 + i < length rows = omega arith in
    rw (add-one i) (subst (λ (k : ℕ). set (paste rows 0 columns i) k (get_or columns i 0) ≡ paste rows 0 columns (suc i)) e (paste-suc rows 0 columns i 0 l b))

pub loop-i-init : goal.loop-i-init
loop-i-init c = (search rules, c.requires, refl, paste-zero c.args.rows.now 0 c.args.columns)

pub loop-i-preserved : goal.loop-i-preserved
loop-i-preserved c =
    let l = c.loop-i in
    let a = c.args in
    (l.invariant.0, l.invariant.1, simp length-set l.invariant.2, rw l.invariant.3 (one_more a.rows.now a.columns l.i (omega (arith, l.invariant.1)) (omega (arith, l.invariant.0))))

pub returns : goal.returns
returns c =
    let l = c.loop-i in
    let a = c.args in
    let e : l.i ≡ 13 = omega arith in
    l.invariant.3 ∙ rw (e, take_all 13 a.columns (omega (arith, l.invariant.0)))
