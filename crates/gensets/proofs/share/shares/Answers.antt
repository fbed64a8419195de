-- `gensets::share::shares` meets its contract. Assumes nothing.
use borrow.Author.Rules.{rules}
use mathlib.Core.Path.{◌≡◌}
use native.Mathlib.Omega.{arith}
use Rattle.gensets.proofs.SharesCases.{no_power, out_of_range, over-capacity, shared}
use Rattle.gensets.proofs.share.shares.Goals as goal

pub returns-then-cap-gt-MOST_CAPACITY : goal.returns-then-cap-gt-MOST_CAPACITY
returns-then-cap-gt-MOST_CAPACITY c =
    let s = c.args in
    let e = c.capacity-cap.ensures.value in
    out_of_range s.sets s.mask s.diesel (omega arith)

pub returns-then-cap-diesel : goal.returns-then-cap-diesel
returns-then-cap-diesel c =
    let s = c.args in
    let e = c.capacity-cap.ensures.value in
    over-capacity s.sets s.mask s.diesel (omega arith) (omega arith)

pub returns-then-diesel-eq0 : goal.returns-then-diesel-eq0
returns-then-diesel-eq0 c =
    let s = c.args in
    let e = c.capacity-cap.ensures.value in
    let none : s.diesel ≡ 0 = search rules in
    rw (← no_power s.sets s.mask, none) (shared s.sets s.mask 0 (omega arith) (omega arith))

pub returns : goal.returns
returns c =
    let s = c.args in
    let e = c.capacity-cap.ensures.value in
    rw c.taken.ensures (shared s.sets s.mask s.diesel (omega arith) (omega arith))
