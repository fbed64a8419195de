-- `commitment::configuration::Choices::greatest_usable` meets its contract: what is left of the configurations decides. Assumes nothing.
use Rattle.std.proofs.Common.{◌≡◌, length, arith, rules}
use Rattle.commitment.proofs.Choices.{greatest-turn, greatest-end}
use Rattle.commitment.proofs.configuration.Choices.greatest_usable.Goals as goal

pub loop-place-preserved : goal.loop-place-preserved
loop-place-preserved c =
    let size : length c.args.self.now.configs.now ≡ 64 = search rules in
    greatest-turn _ _ _ _ c.loop-place.place (omega arith) _ _ c.loop-place.invariant _ (omega arith) c.greater-greatest.ensures

pub returns : goal.returns
returns c =
    let size : length c.args.self.now.configs.now ≡ 64 = search rules in
    greatest-end _ _ _ _ c.loop-place.place (omega arith) _ _ c.loop-place.invariant (omega arith)
