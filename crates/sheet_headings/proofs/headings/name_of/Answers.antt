-- `sheet_headings::headings::name_of` meets its contract: the names are tried one after the other. Assumes nothing.
use Rattle.rules.specs.Bytes.{bytes}
use Rattle.rules.specs.SampleFile.{sample_sheet}
use Rattle.sheet_headings.proofs.HeadingLaws.{name-here, name-later, no_name}
use Rattle.sheet_headings.proofs.headings.name_of.Goals as goal

pub returns-then-eq : goal.returns-then-eq
unfolding sample_sheet bytes
returns-then-eq c =
    name-here _ _ _ _ _ c.eq.ensures c.as_slice.ensures c.if-eq.true

pub returns-then-eq-2 : goal.returns-then-eq-2
unfolding sample_sheet bytes
returns-then-eq-2 c =
    let first = c.before.before.before in
    name-later _ _ _ _ _ first.eq.ensures first.as_slice.ensures first.if-eq.false
    (name-here _ _ _ _ _ c.eq-2.ensures c.as_slice-2.ensures c.if-eq-2.true)

pub returns-then-eq-3 : goal.returns-then-eq-3
unfolding sample_sheet bytes
returns-then-eq-3 c =
    let second = c.before.before.before in
    let first = second.before.before.before in
    name-later _ _ _ _ _ first.eq.ensures first.as_slice.ensures first.if-eq.false
    (name-later _ _ _ _ _ second.eq-2.ensures second.as_slice-2.ensures second.if-eq-2.false
    (name-here _ _ _ _ _ c.eq-3.ensures c.as_slice-3.ensures c.if-eq-3.true))

pub returns-then-eq-4 : goal.returns-then-eq-4
unfolding sample_sheet bytes
returns-then-eq-4 c =
    let third = c.before.before.before in
    let second = third.before.before.before in
    let first = second.before.before.before in
    name-later _ _ _ _ _ first.eq.ensures first.as_slice.ensures first.if-eq.false
    (name-later _ _ _ _ _ second.eq-2.ensures second.as_slice-2.ensures second.if-eq-2.false
    (name-later _ _ _ _ _ third.eq-3.ensures third.as_slice-3.ensures third.if-eq-3.false
    (name-here _ _ _ _ _ c.eq-4.ensures c.as_slice-4.ensures c.if-eq-4.true)))

pub returns : goal.returns
unfolding sample_sheet bytes
returns c =
    let third = c.before.before.before in
    let second = third.before.before.before in
    let first = second.before.before.before in
    name-later _ _ _ _ _ first.eq.ensures first.as_slice.ensures first.if-eq.false
    (name-later _ _ _ _ _ second.eq-2.ensures second.as_slice-2.ensures second.if-eq-2.false
    (name-later _ _ _ _ _ third.eq-3.ensures third.as_slice-3.ensures third.if-eq-3.false
    (name-later _ _ _ _ _ c.eq-4.ensures c.as_slice-4.ensures c.if-eq-4.false (no_name _))))
