-- `usual_rows::usual::powers_named` meets its contract. Assumes nothing.
use Rattle.std.proofs.Common.{refl}
use Rattle.usual_rows.proofs.UsualLaws.{named}
use Rattle.usual_rows.proofs.usual.powers_named.Goals as goal

pub returns : goal.returns
returns c = λ e. named _ _ _ _ refl e
