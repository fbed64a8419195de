-- `put_line` meets its contract: the first eight numbers, and the text of the last five, put again or made. Assumes nothing.
use Prim.Native.Nat.{ℕ, ◌+◌, ◌^◌, ◌≤◌, min}
use mathlib.Core.Path.{◌≡◌, sym, ap, ◌∙◌}
use mathlib.Core.List.{List}
use native.Mathlib.Omega.{arith}
use lib.ListN.{length, take, drop, length-take}
use Rattle.rules.specs.Bytes.{comma_line}
use Rattle.rules.proofs.LittleEndian.{AllBelow}
use Rattle.decimals.specs.Commaed.{commaed}
use Rattle.texts.specs.Placed.{placed}
use Rattle.texts.proofs.Texts.{tail-is}
use Rattle.decimals.proofs.Lines.{line-some}
use Rattle.decimals.proofs.Lengths.{all-below}
use Rattle.texts.proofs.PutAt.{was-put}
use Rattle.row_texts.proofs.Kept.{ends-length, halves-length, text-length, text-stands}
use Rattle.row_texts.proofs.LineAt.{first-most, ends-most, two-parts}
use Rattle.row_texts.proofs.put_rows.put_line.Goals as goal
use Rattle.row_texts.proofs.put_rows.put_line.Goals.{After-put_commaed-last}

-- the first eight numbers are put, and any other five have room after them
module _ (c : After-put_commaed-last) where
  abbrev row : List ℕ
  row = c.args.row.now

  abbrev out : List ℕ
  out = c.args.out.now

  below : AllBelow (2 ^ 64) row
  below = all-below (2 ^ 64) row (λ i. omega (arith, c.type_inv.row i))

  first : (c.put_commaed-last.result ≡ c.args.at + length (commaed (take 8 row))) × (c.put_commaed-last.new.buffer ≡ placed out c.args.at (commaed (take 8 row)))
  first =
      was-put 168 (commaed (take 8 row)) c.args.at out (omega (arith, c.requires.room)) _ _ (rw (length-take 8 row ∙ (let m : min 8 (length row) ≡ 8 = omega (arith, c.requires.thirteen) in m)) at c.put_commaed-last.ensures)

  room : c.put_commaed-last.result + 105 ≤ length c.put_commaed-last.new.buffer
  room = omega (arith, first.0, first-most row c.requires.thirteen below, c.put_commaed-last.auto.buffer, c.requires.room)

  whole_room : c.args.at + length (comma_line row) ≤ length out
  whole_room = omega (arith, halves-length row c.requires.thirteen, first-most row c.requires.thirteen below, ends-most row c.requires.thirteen below, c.requires.room)

-- what is put again is the text of the last five numbers
as-text : (b b' t u : List ℕ) (at : ℕ) → b' ≡ placed b at t → t ≡ u → b' ≡ placed b at u
as-text b b' t u at e f = e ∙ ap (placed b at) f

pub slice_bounds-put_commaed-end : goal.slice_bounds-put_commaed-end
slice_bounds-put_commaed-end c =
    let xs = c.args.row.now in
    sym (length-take 8 xs ∙ (let m : min 8 (length xs) ≡ 8 = omega (arith, c.requires.thirteen) in m))

pub put_again-requires : goal.put_again-requires
put_again-requires c =
    let at = (goal.at.put_again-requires c).After-put_commaed-last in
    let size = text-length c.requires c.if-alike.true in
    (omega (arith, (first at).0, c.requires.before), omega (arith, room at, size, ends-most c.args.row.now c.requires.thirteen (below at)))

pub returns-then-alike : goal.returns-then-alike
returns-then-alike c =
    let at = (goal.at.returns-then-alike c).After-put_commaed-last in
    let pre = c.requires in
    let text = text-stands pre c.if-alike.true _ (commaed (take 8 c.args.row.now)) (first at).1 in
    two-parts c.args.row.now pre.thirteen c.args.out.now _ _ c.args.at _ _ (whole_room at) (first at).0 (first at).1
    (omega (arith, c.put_again.ensures.0, text-length pre c.if-alike.true))
    (as-text c.put_commaed-last.new.buffer _ _ (comma_line (drop 8 c.args.row.now)) c.put_commaed-last.result c.put_again.ensures.1 text)

pub returns : goal.returns
returns c =
    let at = (goal.at.returns c).After-put_commaed-last in
    let pre = c.requires in
    let five = ends-length c.args.row.now pre.thirteen in
    let told = rw (tail-is c.args.row.now 8, line-some (drop 8 c.args.row.now) (omega (arith, five)), five) at c.put_numbers.ensures in
    let made = was-put 105 (comma_line (drop 8 c.args.row.now)) c.put_commaed-last.result c.put_commaed-last.new.buffer (room at) _ _ told in
    two-parts c.args.row.now pre.thirteen c.args.out.now _ _ c.args.at _ _ (whole_room at) (first at).0 (first at).1 made.0 made.1
