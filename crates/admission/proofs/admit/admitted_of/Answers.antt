-- `admission::admit::admitted_of` meets its contract. Assumes nothing.
use mathlib.Core.Path.{sym, ◌∙◌}
use Rattle.admission.specs.Admission.{admitted_of}
use Rattle.admission.proofs.admit.admitted_of.Goals as goal

pub returns-then-not-some_file_gives : goal.returns-then-not-some_file_gives
unfolding admitted_of
returns-then-not-some_file_gives c = rw (sym c.some_file_gives.ensures ∙ c.if-not-some_file_gives.true)

pub returns-then-not-possible : goal.returns-then-not-possible
unfolding admitted_of
returns-then-not-possible c = rw (sym c.some_file_gives.ensures ∙ c.if-not-some_file_gives.false, sym c.possible.ensures ∙ c.if-not-possible.true)

pub returns : goal.returns
unfolding admitted_of
returns c =
    rw (sym c.some_file_gives.ensures ∙ c.if-not-some_file_gives.false, sym c.possible.ensures ∙ c.if-not-possible.false) c.admitted_to.ensures
