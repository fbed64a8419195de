-- `modes::masks::on_mask` meets its contract. Assumes nothing.
use Prim.Native.Nat.{ℕ}
use mathlib.Core.Path.{◌≡◌, ap, ◌∙◌}
use mathlib.Core.Bool.{Bool, false}
use mathlib.Core.List.{List}
use lib.ListN.{get_or}
use borrow.Author.Rules.{rules}
use Rattle.rules.specs.Numbers.{tab}
use Rattle.rules.specs.Modes.{is_on, state_at, on_mask}
use Rattle.rules.proofs.Tables.{tab-at}
use Rattle.modes.proofs.MaskLaws.{same-mask}
use Rattle.modes.proofs.MadeByPlace.{made}
use Rattle.modes.proofs.masks.on_mask.Goals as goal

pub returns-clause-value : goal.returns-clause-value
unfolding on_mask state_at
returns-clause-value c =
    let p = λ (j : ℕ). is_on (state_at c.args.states j).mode in
    let marks : c.from_fn.result ≡ tab 8 p = made _ _ 8 p (λ i y q l called. search rules) _ c.from_fn.ensures.items in
    c.mask_of.ensures.value ∙ same-mask (λ i. get_or c.from_fn.result i false) p 8 (λ i l. ap (λ (m : List Bool). get_or m i false) marks ∙ tab-at p 8 i false l)
