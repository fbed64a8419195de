-- `sample_rows::reader::joined_line` meets its contract. Assumes nothing.
use Rattle.sample_rows.proofs.reader.joined_line.Goals as goal

pub returns-then-len-eq0 : goal.returns-then-len-eq0
returns-then-len-eq0 c = λ ls. rw c.if-len-eq0.true (c.whole_line.ensures ls)

pub returns-in_default : goal.returns-in_default
returns-in_default c =
    let over = rw c.in_default.is at c.extended_by.ensures in
    λ ls. c.too_long.ensures _ ls ls over

pub returns : goal.returns
returns c =
    let whole = rw c.in-Some.is at c.extended_by.ensures in
    λ ls. rw (← whole.0) (c.whole_line-2.ensures ls)
