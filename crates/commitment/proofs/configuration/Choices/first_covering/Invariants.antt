-- `commitment::configuration::Choices::first_covering` meets its contract: what is left of the configurations decides. Assumes nothing.
use Rattle.std.proofs.Common.{◌≡◌, take, drop}
use Rattle.commitment.specs.Choice.{first_covering_of}
use Rattle.commitment.proofs.configuration.Choices.first_covering.Given as goal

abbrev pub invariant-loop-place : goal.invariant-loop-place
invariant-loop-place l =
    let masks = take l.configcount l.self.configs.now in
    first_covering_of l.self.caps.now l.self.barred l.held 0 masks ≡ first_covering_of l.self.caps.now l.self.barred l.held l.place (drop l.place masks)
