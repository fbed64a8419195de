-- `held_inputs::fill::fill` meets its contract. Assumes nothing.
use mathlib.Core.Path.{sym, ◌∙◌}
use native.Mathlib.Omega.{arith}
use Rattle.held_inputs.proofs.FillLaws.{filled_none}
use Rattle.held_inputs.proofs.fill.fill.Goals as goal

pub returns-then-source_refused : goal.returns-then-source_refused
returns-then-source_refused c =
    let a = c.args in
    filled_none a.source a.second a.chunk.now a.at a.loads.now a.solars.now a.sheddables.now (sym c.source_refused.ensures ∙ c.if-source_refused.true)

pub fill_seconds-requires : goal.fill_seconds-requires
fill_seconds-requires c = (omega arith, sym c.source_refused.ensures ∙ c.if-source_refused.false)

pub returns : goal.returns
returns c = c.fill_seconds.ensures
