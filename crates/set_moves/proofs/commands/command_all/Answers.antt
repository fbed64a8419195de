-- `set_moves::commands::command_all` meets its contract. Assumes nothing.
use Rattle.std.proofs.Common.{rules}
use Rattle.rules.specs.StationRecord.{past_end, set_at}
use Rattle.rules.specs.Modes.{state_at}
use Rattle.set_moves.specs.InType.{commanded_all_in}
use Rattle.modes.proofs.MadeByPlace.{made}
use Rattle.set_moves.proofs.commands.command_all.Goals as goal

pub returns : goal.returns
unfolding commanded_all_in set_at state_at past_end
returns c = rw (← c.every_on-release.ensures) (made _ _ 8 _ (λ i y q l called. search rules) _ c.from_fn.ensures.items)
