-- `put_rows` meets its contract. The invariant: the lines of the rows so far stand at the buffer's front, and where the text of the last
-- row's last five numbers begins is known. Assumes nothing.
use Prim.Native.Nat.{ℕ, ◌+◌, ◌*◌, ◌/◌, ◌≤◌}
use mathlib.Core.Path.{◌≡◌, refl, ◌∙◌}
use mathlib.Core.List.{List, ◌++◌}
use native.Mathlib.Omega.{arith}
use native.Mathlib.Numerals.{add-one}
use lib.ListN.{length}
use borrow.Author.Rules.{rules}
use Rattle.rules.specs.Bytes.{comma_line}
use Rattle.texts.proofs.Texts.{goes_on, front_fits}
use Rattle.decimals.proofs.Lengths.{comma-line-least}
use Rattle.row_texts.specs.RowLines.{lines_of}
use Rattle.row_texts.proofs.RowLines.{row_at, lines_more}
use Rattle.row_texts.proofs.Kept.{nothing-kept, kept-before, kept-stands, kept_next}
use Rattle.row_texts.proofs.LineAt.{not-put, some-put}
use Rattle.row_texts.proofs.put_rows.put_rows.Goals as goal
use Rattle.row_texts.proofs.put_rows.put_rows.Goals.{In-loop-count}

-- in a turn of the loop
module _ (c : In-loop-count) where
  abbrev count : ℕ
  count = c.loop-count.count

  abbrev bytes : ℕ
  bytes = c.loop-count.bytes

  abbrev out : List ℕ
  out = c.loop-count.out

  abbrev numbers : List ℕ
  numbers = c.args.numbers.now

  abbrev line : List ℕ
  line = comma_line (row_at count numbers)

  -- a row is left
  whole : 13 * count + 13 ≤ length numbers
  whole = omega (arith, c.loop-count-test.true)

pub loop-count-init : goal.loop-count-init
unfolding lines_of
loop-count-init c = (omega arith, omega arith, refl, (refl, refl), nothing-kept _)

pub overflow_mul-count : goal.overflow_mul-count
overflow_mul-count c = omega (arith, whole c)

pub put_next-put-requires : goal.put_next-put-requires
put_next-put-requires c =
    let inv = c.loop-count.invariant in
    record {
      there = whole (goal.at.put_next-put-requires c).In-loop-count;
      within = inv.1;
      before = omega (arith, inv.4, inv.3.0, kept-before (numbers (goal.at.put_next-put-requires c).In-loop-count) (count (goal.at.put_next-put-requires c).In-loop-count) inv.0);
      stands = λ least same. kept-stands (numbers (goal.at.put_next-put-requires c).In-loop-count) _ (out (goal.at.put_next-put-requires c).In-loop-count) (count (goal.at.put_next-put-requires c).In-loop-count) (bytes (goal.at.put_next-put-requires c).In-loop-count) _ (whole (goal.at.put_next-put-requires c).In-loop-count) inv.3 inv.4 least same;
    }

pub returns-then-put-bytes : goal.returns-then-put-bytes
returns-then-put-bytes c =
    let inv = c.loop-count.invariant in
    let none = not-put (line (goal.at.returns-then-put-bytes c).In-loop-count) (bytes (goal.at.returns-then-put-bytes c).In-loop-count) (out (goal.at.returns-then-put-bytes c).In-loop-count) _ _ c.put_next-put.ensures.put (comma-line-least (row_at (count (goal.at.returns-then-put-bytes c).In-loop-count) (numbers (goal.at.returns-then-put-bytes c).In-loop-count))) c.if-put-bytes.true in
    record { front = (inv.3.0, none.0 ∙ inv.3.1); whole = inv.0; ends = λ more. omega (arith, none.1, inv.2) }

pub loop-count-preserved : goal.loop-count-preserved
loop-count-preserved c =
    let inv = c.loop-count.invariant in
    let lent = c.args.out.now in
    let told = some-put (line (goal.at.loop-count-preserved c).In-loop-count) (bytes (goal.at.loop-count-preserved c).In-loop-count) (out (goal.at.loop-count-preserved c).In-loop-count) _ _ c.put_next-put.ensures.put c.if-put-bytes.false in
    let f = goes_on lent (lines_of (count (goal.at.loop-count-preserved c).In-loop-count) (numbers (goal.at.loop-count-preserved c).In-loop-count)) (line (goal.at.loop-count-preserved c).In-loop-count) (out (goal.at.loop-count-preserved c).In-loop-count) _ (bytes (goal.at.loop-count-preserved c).In-loop-count) _ inv.3 told.0 told.1 in (
      omega (arith, whole (goal.at.loop-count-preserved c).In-loop-count),
      front_fits lent (lines_of (count (goal.at.loop-count-preserved c).In-loop-count) (numbers (goal.at.loop-count-preserved c).In-loop-count) ++ line (goal.at.loop-count-preserved c).In-loop-count) _ _ f,
      search rules,
      rw (add-one (count (goal.at.loop-count-preserved c).In-loop-count), lines_more (count (goal.at.loop-count-preserved c).In-loop-count) (numbers (goal.at.loop-count-preserved c).In-loop-count)) f,
      rw (add-one (count (goal.at.loop-count-preserved c).In-loop-count)) (kept_next (numbers (goal.at.loop-count-preserved c).In-loop-count) (count (goal.at.loop-count-preserved c).In-loop-count) (whole (goal.at.loop-count-preserved c).In-loop-count) (bytes (goal.at.loop-count-preserved c).In-loop-count) _ inv.3.0 c.put_next-put.ensures.kept-is),
    )

pub returns : goal.returns
returns c =
    let inv = c.loop-count.invariant in
    let done : c.loop-count.count ≡ length c.args.numbers.now / 13 = omega arith in
    record { front = rw done at inv.3; whole = rw done at inv.0; ends = λ more. absurd (omega (arith, more, done)) }
