-- `commitment::configuration::Choices::first_covering` meets its contract: what is left of the configurations decides. Assumes nothing.
use Rattle.std.proofs.Common.{◌≡◌, length, sym, ◌∙◌, arith, rules}
use Rattle.commitment.proofs.Choices.{first-here, first-later, first-none}
use Rattle.commitment.proofs.configuration.Choices.first_covering.Goals as goal

pub returns-then-covers_at : goal.returns-then-covers_at
returns-then-covers_at c =
    let size : length c.args.self.now.configs.now ≡ 64 = search rules in
    (omega arith, first-here _ _ _ _ c.loop-place.place (omega arith) _ _ c.loop-place.invariant (omega arith) (sym c.covers_at.ensures ∙ c.if-covers_at.true))

pub loop-place-preserved : goal.loop-place-preserved
loop-place-preserved c =
    let size : length c.args.self.now.configs.now ≡ 64 = search rules in
    first-later _ _ _ _ c.loop-place.place (omega arith) _ _ c.loop-place.invariant (omega arith) (sym c.covers_at.ensures ∙ c.if-covers_at.false)

pub returns : goal.returns
returns c =
    let size : length c.args.self.now.configs.now ≡ 64 = search rules in
    sym (first-none _ _ _ _ c.loop-place.place (omega arith) _ _ c.loop-place.invariant (omega arith))
