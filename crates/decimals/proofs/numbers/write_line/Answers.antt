-- `write_line` meets its contract: all numbers but the last with their commas, and the last with LF after it. Assumes nothing.
use Prim.Native.Nat.{ℕ, ◌+◌, ◌-◌, ◌≤◌, ◌<◌, min}
use mathlib.Core.Path.{◌≡◌, sym, ap, ◌∙◌}
use mathlib.Core.List.{List, ◌++◌}
use native.Mathlib.Omega.{arith}
use lib.ListN.{length, take, get_or, length-append, length-take}
use borrow.Author.Rules.{rules}
use Rattle.rules.specs.Bytes.{LF, decimal, comma_line}
use Rattle.decimals.specs.Commaed.{ended, commaed}
use Rattle.texts.proofs.Texts.{both-placed, tail-ended}
use Rattle.decimals.proofs.Lines.{length-ended, line-last}
use Rattle.decimals.proofs.numbers.write_line.Goals as goal
use Rattle.decimals.proofs.numbers.write_line.Goals.{After-write_commaed-comma}

module _ (xs : List ℕ) (some : 1 ≤ length xs) where
  abbrev others : List ℕ
  others = take (length xs - 1) xs

  abbrev last : ℕ
  last = get_or xs (length xs - 1) 0

  parts : comma_line xs ≡ commaed others ++ ended last LF
  parts = line-last xs (length xs - 1) (omega arith)

  parts-length : length (comma_line xs) ≡ length (commaed others) + (length (decimal last) + 1)
  parts-length = ap length parts ∙ length-append (commaed others) (ended last LF) ∙ ap (λ (n : ℕ). length (commaed others) + n) (length-ended last LF)

-- past the commas the last number has room, and LF after it
module _ (c : After-write_commaed-comma) where
  abbrev xs : List ℕ
  xs = c.args.numbers.now

  room : c.write_commaed-comma.result + length (decimal (last xs c.requires.0)) < length c.write_commaed-comma.new.buffer
  room = omega (arith, c.write_commaed-comma.ensures.0, c.write_commaed-comma.auto.buffer, parts-length xs c.requires.0, c.requires.1)

-- by way of the buffer as the first call leaves it
as_long : {n k : ℕ} (m : ℕ) → m ≡ k → n ≡ m → n ≡ k
as_long m e f = f ∙ e

pub slice_bounds-write_commaed-end : goal.slice_bounds-write_commaed-end
slice_bounds-write_commaed-end c =
    let n : ℕ = length c.args.numbers.now in
    sym (length-take (n - 1) _ ∙ (let m : min (n - 1) n ≡ n - 1 = omega arith in m))

pub write_commaed-comma-requires : goal.write_commaed-comma-requires
write_commaed-comma-requires c =
    omega (arith, parts-length c.args.numbers.now c.requires.0, c.requires.1)

pub slice_bounds-put_long_decimal-count : goal.slice_bounds-put_long_decimal-count
slice_bounds-put_long_decimal-count c = omega (arith, room (goal.at.slice_bounds-put_long_decimal-count c).After-write_commaed-comma)

pub slice_bounds-put_long_decimal-start : goal.slice_bounds-put_long_decimal-start
slice_bounds-put_long_decimal-start c = omega (arith, room (goal.at.slice_bounds-put_long_decimal-start c).After-write_commaed-comma)

pub put_long_decimal-requires : goal.put_long_decimal-requires
put_long_decimal-requires c = omega (arith, room (goal.at.put_long_decimal-requires c).After-write_commaed-comma)

pub overflow_add-end : goal.overflow_add-end
overflow_add-end c = omega (arith, room (goal.at.overflow_add-end c).After-write_commaed-comma, c.put_long_decimal.ensures.0)

pub bounds-buffer-end : goal.bounds-buffer-end
bounds-buffer-end c = omega (arith, room (goal.at.bounds-buffer-end c).After-write_commaed-comma, c.put_long_decimal.ensures.0)

pub overflow_add-result : goal.overflow_add-result
overflow_add-result c = omega (arith, room (goal.at.overflow_add-result c).After-write_commaed-comma, c.put_long_decimal.ensures.0)

pub shape_of-buffer : goal.shape_of-buffer
shape_of-buffer c =
    let put = c.write_commaed-comma in
    as_long (length put.new.buffer) put.auto.buffer (search rules)

pub returns : goal.returns
unfolding ended
returns c =
    let at = (goal.at.returns c).After-write_commaed-comma in
    let numbers = c.args.numbers.now in
    let l = c.args.buffer.now in
    let some = c.requires.0 in
    let p = c.put_long_decimal in
    let told = c.write_commaed-comma.ensures in
    let fits : c.args.at + length (commaed (others numbers some)) ≤ length l = omega (arith, parts-length numbers some, c.requires.1) in
    let end = tail-ended c.write_commaed-comma.new.buffer c.write_commaed-comma.result _ LF _ (decimal (last numbers some)) (room at) p.ensures in
    (omega (arith, told.0, p.ensures.0, parts-length numbers some), both-placed l (commaed (others numbers some)) (ended (last numbers some) LF) (comma_line numbers) _ _ c.args.at _ fits told.0 told.1 end (parts numbers some))
