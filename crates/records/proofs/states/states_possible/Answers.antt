-- `records::states::states_possible` meets its contract: each place is asked once. Assumes nothing.
use Prim.Native.Nat.{ℕ}
use mathlib.Core.Path.{◌≡◌, refl}
use mathlib.Core.Bool.{true, false}
use lib.Dec.{ltb}
use borrow.Author.Rules.{rules}
use borrow.Author.Tests.{tests}
use Rattle.std.proofs.lemmas.Iterator.{cases_from_all, YieldsList-from_range}
use Rattle.rules.specs.StationRecord.{past_end, set_at}
use Rattle.rules.specs.Modes.{state_at}
use Rattle.rules.specs.RunRecord.{state_possible, states_possible}
use Rattle.records.proofs.AllPlaces.{all-places}
use Rattle.records.proofs.states.states_possible.Goals as goal

pub returns : goal.returns
unfolding states_possible set_at state_at past_end
returns c =
    let a = c.args in
    let p = λ (j : ℕ). state_possible (ltb j a.setcount) (set_at a.sets j) (state_at a.states j) a.done in
    all-places p 8 _ (cases_from_all _ _ _ (λ k. p k ≡ true) (λ k. p k ≡ false) c.all.ensures.ran (YieldsList-from_range 0 8 8 refl refl) (λ x q k. search (rules, tests)) (λ x q k. search (rules, tests)))
