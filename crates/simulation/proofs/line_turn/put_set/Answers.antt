-- `put_set` meets its contract. Assumes nothing.
use Prim.Native.Nat.{◌<◌, ◌≤◌}
use mathlib.Core.Path.{◌≡◌}
use native.Mathlib.Omega.{arith}
use native.Mathlib.Numerals.{add-one}
use borrow.Author.Tests.{le-ltb, lt-ltb}
use lib.ListN.{length}
use Rattle.rules.specs.Modes.{state_at}
use Rattle.run_texts.specs.Text.{set_line_at}
use Rattle.simulation.proofs.line_turn.put_set.Goals as goal
use Rattle.simulation.proofs.line_turn.put_set.Goals.{Start}

-- the states are eight
eight : (c : Start) → length c.args.states ≡ 8
eight c = c.well_formed.0.1.0.1

pub returns-in-Some : goal.returns-in-Some
unfolding set_line_at state_at
returns-in-Some c =
    let place = c.args.place in
    let found = c.in-Some.ensures.lookup in
    let few : place < 8 = omega (arith, found.3.0, eight (goal.at.returns-in-Some c).Start) in
    rw (lt-ltb place 8 few, ← (found.3.1 _)) (rw (add-one place) at c.put_set_line.ensures)

pub returns-in-None : goal.returns-in-None
unfolding set_line_at state_at
returns-in-None c =
    let past : 8 ≤ c.args.place = omega (arith, c.in-None.ensures.lookup.3, eight (goal.at.returns-in-None c).Start) in
    rw (le-ltb c.args.place 8 past) c.put_nothing.ensures
