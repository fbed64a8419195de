-- `set_moves::commands::has_set` meets its contract. Assumes nothing.
use Rattle.std.proofs.Common.{◌^◌, ◌<◌, sym, rules}
use Rattle.rules.proofs.Tables.{has-beyond}
use Rattle.set_moves.proofs.commands.has_set.Goals as goal

pub returns-then-place-ge32 : goal.returns-then-place-ge32
returns-then-place-ge32 c =
    let small : c.args.mask < 2 ^ 32 = search rules in
    sym (has-beyond 32 c.args.mask c.args.place small c.if-place-ge32.true)
