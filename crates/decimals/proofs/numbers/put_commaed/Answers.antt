-- `put_commaed` meets its contract: numbers that may have no room are left out. Assumes nothing.
use Prim.Native.Nat.{◌+◌, ◌^◌, ◌≤◌}
use mathlib.Core.Path.{sym, ◌∙◌}
use native.Mathlib.Omega.{arith}
use lib.ListN.{length}
use borrow.Author.Tests.{leb-true, leb-false}
use Rattle.decimals.specs.Commaed.{commaed, most_bytes}
use Rattle.decimals.proofs.Lengths.{commaed-most, all-below}
use Rattle.texts.proofs.PutAt.{left_out, put-there}
use Rattle.decimals.proofs.numbers.put_commaed.Goals as goal
use Rattle.decimals.proofs.numbers.put_commaed.Goals.{Else-not-has_room}

-- where it goes on, any so many numbers have room
room : (c : Else-not-has_room) → let a = c.args in a.at + most_bytes a.numbers.now ≤ length a.buffer.now
room c =
    let a = c.args in
    leb-true (a.at + most_bytes a.numbers.now) (length a.buffer.now) (sym c.has_room.ensures ∙ c.if-not-has_room.false)

pub returns-then-not-has_room : goal.returns-then-not-has_room
returns-then-not-has_room c =
    let xs = c.args.numbers.now in
    left_out (most_bytes xs) (commaed xs) c.args.at c.args.buffer.now (leb-false (c.args.at + most_bytes xs) (length c.args.buffer.now) (sym c.has_room.ensures ∙ c.if-not-has_room.true))

pub write_commaed-requires : goal.write_commaed-requires
write_commaed-requires c =
    let xs = c.args.numbers.now in
    omega (arith, room (goal.at.write_commaed-requires c).Else-not-has_room, commaed-most xs (all-below (2 ^ 64) xs (λ i. omega (arith, c.type_inv.numbers i))))

pub returns : goal.returns
returns c =
    let xs = c.args.numbers.now in
    put-there (most_bytes xs) (commaed xs) c.args.at c.args.buffer.now (room (goal.at.returns c).Else-not-has_room) _ _ c.write_commaed.ensures.0 c.write_commaed.ensures.1
