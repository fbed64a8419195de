-- `commitment::configuration::Choices::greatest_usable` meets its contract: what is left of the configurations decides. Assumes nothing.
use Rattle.std.proofs.Common.{◌≡◌, take, drop}
use Rattle.commitment.specs.Choice.{none, greatest_usable_of}
use Rattle.commitment.proofs.configuration.Choices.greatest_usable.Given as goal

abbrev pub invariant-loop-place : goal.invariant-loop-place
invariant-loop-place l =
    let masks = take l.configcount l.self.configs.now in
    greatest_usable_of l.self.caps.now l.self.barred none 0 masks ≡ greatest_usable_of l.self.caps.now l.self.barred l.greatest l.place (drop l.place masks)
