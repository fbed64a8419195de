-- `put_made` meets its contract: the line is made in two parts at the front of an array that has room for any, and put from there. Assumes nothing.
use Prim.Native.Nat.{ℕ, ◌+◌, ◌^◌, ◌≤◌, min}
use mathlib.Core.Path.{◌≡◌, sym, ap, ◌∙◌}
use mathlib.Core.List.{List}
use native.Mathlib.Omega.{arith}
use lib.ListN.{length, take, drop, replicate, length-take}
use lib.Seq.{take_at}
use Rattle.rules.specs.Bytes.{comma_line}
use Rattle.rules.proofs.LittleEndian.{AllBelow}
use Rattle.decimals.specs.Commaed.{commaed}
use Rattle.texts.specs.Placed.{Front}
use Rattle.texts.proofs.Texts.{goes_on, front_fits, tail-is}
use Rattle.decimals.proofs.Lines.{line-some}
use Rattle.decimals.proofs.Lengths.{all-below}
use Rattle.texts.proofs.PutAt.{was-put, put_front}
use Rattle.row_texts.proofs.Kept.{ends-length, halves}
use Rattle.row_texts.proofs.LineAt.{first-most}
use Rattle.row_texts.proofs.put_rows.put_made.Goals as goal
use Rattle.row_texts.proofs.put_rows.put_made.Goals.{After-put_numbers-size}

module _ (c : After-put_numbers-size) where
  abbrev row : List ℕ
  row = c.args.row.now

  below : AllBelow (2 ^ 64) row
  below = all-below (2 ^ 64) row (λ i. omega (arith, c.type_inv.row i))

  -- the first eight numbers stand at the array's front
  eight : length (take 8 row) ≡ 8
  eight = length-take 8 row ∙ (let m : min 8 (length row) ≡ 8 = omega (arith, c.requires.0) in m)

  abbrev last : ℕ
  last = c.put_commaed-last.result

  abbrev after : List ℕ
  after = c.put_commaed-last.new.buffer

  first : Front (replicate 273 0) (commaed (take 8 row)) last after
  first = put_front 168 (commaed (take 8 row)) (replicate 273 0) last after (omega arith) (rw eight at c.put_commaed-last.ensures)

  room : last + 105 ≤ length after
  room = omega (arith, first.0, first-most row c.requires.0 below, c.put_commaed-last.auto.buffer)

  -- and then the whole line does
  line : Front (replicate 273 0) (comma_line row) c.put_numbers-size.result c.put_numbers-size.new.buffer
  line =
      let five = ends-length row c.requires.0 in
      let told = rw (tail-is row 8, line-some (drop 8 row) (omega (arith, five)), five) at c.put_numbers-size.ensures in
      let made = was-put 105 (comma_line (drop 8 row)) last after room _ _ told in
      rw (halves row c.requires.0) (goes_on (replicate 273 0) (commaed (take 8 row)) (comma_line (drop 8 row)) after _ last _ first made.0 made.1)

  size : c.put_numbers-size.result ≤ length c.put_numbers-size.new.buffer
  size = front_fits (replicate 273 0) (comma_line row) c.put_numbers-size.new.buffer c.put_numbers-size.result line

  -- what is put into the buffer
  text : take c.put_numbers-size.result c.put_numbers-size.new.buffer ≡ comma_line row
  text = ap (take c.put_numbers-size.result) line.1 ∙ take_at (comma_line row) _ c.put_numbers-size.result (sym line.0)

pub slice_bounds-put_commaed-end : goal.slice_bounds-put_commaed-end
slice_bounds-put_commaed-end c =
    let xs = c.args.row.now in
    sym (length-take 8 xs ∙ (let m : min 8 (length xs) ≡ 8 = omega (arith, c.requires.0) in m))

pub overflow_add-result : goal.overflow_add-result
overflow_add-result c =
    let p = (goal.at.overflow_add-result c).After-put_numbers-size in
    omega (arith, (first p).0, first-most (row p) c.requires.0 (below p), c.requires.1)

pub slice_bounds-line-end : goal.slice_bounds-line-end
slice_bounds-line-end c = size (goal.at.slice_bounds-line-end c).After-put_numbers-size

pub slice_bounds-put_text-end : goal.slice_bounds-put_text-end
slice_bounds-put_text-end c = simp length-take (omega (arith, size (goal.at.slice_bounds-put_text-end c).After-put_numbers-size))

pub returns : goal.returns
returns c =
    record { kept-is = ap (λ (n : ℕ). c.args.at + n) (first (goal.at.returns c).After-put_numbers-size).0; put = rw (text (goal.at.returns c).After-put_numbers-size) at c.put_text.ensures }
