-- `put_numbers` meets its contract: no numbers have no line, and numbers that may have no room are left out. Assumes nothing.
use Prim.Native.Nat.{◌+◌, ◌^◌, ◌≤◌}
use mathlib.Core.Path.{sym, ◌∙◌}
use native.Mathlib.Omega.{arith}
use lib.ListN.{length}
use borrow.Author.Tests.{leb-true, leb-false}
use Rattle.rules.specs.Bytes.{comma_line}
use Rattle.decimals.specs.Commaed.{line_of, most_bytes}
use Rattle.decimals.proofs.Lines.{line-some, line-none}
use Rattle.decimals.proofs.Lengths.{comma-line-most, all-below}
use Rattle.texts.proofs.PutAt.{left_out, put-there, nothing_put}
use Rattle.decimals.proofs.numbers.put_numbers.Goals as goal
use Rattle.decimals.proofs.numbers.put_numbers.Goals.{Else-not-has_room}

-- where it goes on, any so many numbers have room
room : (c : Else-not-has_room) → let a = c.args in a.at + most_bytes a.numbers.now ≤ length a.buffer.now
room c =
    let a = c.args in
    leb-true (a.at + most_bytes a.numbers.now) (length a.buffer.now) (sym c.has_room.ensures ∙ c.if-not-has_room.false)

pub returns-then-numbers-eq0 : goal.returns-then-numbers-eq0
returns-then-numbers-eq0 c = rw (line-none c.args.numbers.now c.if-numbers-eq0.true) (nothing_put (most_bytes c.args.numbers.now) c.args.at c.args.buffer.now)

pub returns-then-not-has_room : goal.returns-then-not-has_room
returns-then-not-has_room c =
    let xs = c.args.numbers.now in
    left_out (most_bytes xs) (line_of xs) c.args.at c.args.buffer.now (leb-false (c.args.at + most_bytes xs) (length c.args.buffer.now) (sym c.has_room.ensures ∙ c.if-not-has_room.true))

pub write_line-requires : goal.write_line-requires
write_line-requires c =
    let xs = c.args.numbers.now in
    (omega (arith, c.if-numbers-eq0.false), omega (arith, room (goal.at.write_line-requires c).Else-not-has_room, comma-line-most xs (omega (arith, c.if-numbers-eq0.false)) (all-below (2 ^ 64) xs (λ i. omega (arith, c.type_inv.numbers i)))))

pub returns : goal.returns
returns c =
    let xs = c.args.numbers.now in
    rw (line-some xs (omega (arith, c.if-numbers-eq0.false))) (put-there (most_bytes xs) (comma_line xs) c.args.at c.args.buffer.now (room (goal.at.returns c).Else-not-has_room) _ _ c.write_line.ensures.0 c.write_line.ensures.1)
