-- `commitment::configuration::Choices::called_covers` meets its contract. Assumes nothing.
use Rattle.std.proofs.Common.{◌≡◌, length, arith, rules}
use Rattle.rules.specs.Configuration.{mask_called}
use Rattle.commitment.specs.Choice.{usable_of, usable_covering_of, called_covers}
use Rattle.commitment.proofs.Choices.{mask-some, mask-past}
use Rattle.commitment.proofs.configuration.Choices.called_covers.Goals as goal

pub returns-then-called-eq0 : goal.returns-then-called-eq0
unfolding mask_called called_covers usable_covering_of usable_of
returns-then-called-eq0 c = rw c.if-called-eq0.true

pub returns-then-called-gt-CONFIGURATIONS_MOST : goal.returns-then-called-gt-CONFIGURATIONS_MOST
unfolding called_covers usable_covering_of usable_of
returns-then-called-gt-CONFIGURATIONS_MOST c =
    let size : length c.args.self.now.configs.now ≡ 64 = search rules in
    rw (← mask-past c.args.self.now.configs.now c.args.called (omega arith))

pub returns : goal.returns
unfolding called_covers
returns c = rw (← mask-some c.args.self.now.configs.now c.args.called c.if-called-eq0.false) c.covers_at.ensures
