-- `modes::tick::tick` meets its contract: each arm is the definition at the mode that the match told. Assumes nothing.
use mathlib.Core.Path.{sym, ◌∙◌}
use borrow.Author.Tests.{le-leb, lt-leb}
use Rattle.rules.specs.Modes.{tick_from, tick}
use Rattle.modes.proofs.tick.tick.Goals as goal

pub returns-in-Off : goal.returns-in-Off
unfolding tick tick_from
returns-in-Off c = simp c.in-Off.is

pub returns-then-left-le1 : goal.returns-then-left-le1
unfolding tick tick_from
returns-then-left-le1 c =
    c.with_mode.ensures
    ∙ simp (c.in-Warming.is, le-leb _ _ c.if-left-le1.true)

pub returns-else-left-le1 : goal.returns-else-left-le1
unfolding tick tick_from
returns-else-left-le1 c =
    c.with_mode-else-left-le1.ensures
    ∙ simp (c.in-Warming.is, lt-leb _ _ c.if-left-le1.false)

pub returns-in-On : goal.returns-in-On
unfolding tick tick_from
returns-in-On c = simp c.in-On.is

pub returns-then-is_due : goal.returns-then-is_due
unfolding tick tick_from
returns-then-is_due c =
    c.with_mode-then-is_due.ensures
    ∙ simp (c.in-Cooling.is, le-leb _ _ c.if-left-le1-2.true, sym c.is_due.ensures ∙ c.if-is_due.true)

pub returns-else-is_due : goal.returns-else-is_due
unfolding tick tick_from
returns-else-is_due c =
    c.with_mode-else-is_due.ensures
    ∙ simp (c.in-Cooling.is, le-leb _ _ c.if-left-le1-2.true, sym c.is_due.ensures ∙ c.if-is_due.false)

pub returns-else-left-le1-2 : goal.returns-else-left-le1-2
unfolding tick tick_from
returns-else-left-le1-2 c =
    c.with_mode-else-left-le1-2.ensures
    ∙ simp (c.in-Cooling.is, lt-leb _ _ c.if-left-le1-2.false)

pub returns-then-left-le1-3 : goal.returns-then-left-le1-3
unfolding tick tick_from
returns-then-left-le1-3 c =
    c.with_mode-then-left-le1-3.ensures
    ∙ simp (c.in-Service.is, le-leb _ _ c.if-left-le1-3.true)

pub returns-else-left-le1-3 : goal.returns-else-left-le1-3
unfolding tick tick_from
returns-else-left-le1-3 c =
    c.with_mode-else-left-le1-3.ensures
    ∙ simp (c.in-Service.is, lt-leb _ _ c.if-left-le1-3.false)
