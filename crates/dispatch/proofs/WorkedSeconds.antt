-- What many seconds come to: the record and the rows of their steps. Assumes nothing.
use Prim.Native.Nat.{ℕ, zero, suc, ◌*◌, ◌/◌, ◌≤◌}
use mathlib.Core.Path.{◌≡◌, refl, sym, ap, ◌∙◌, subst}
use mathlib.Core.List.{List, [], ◌∷◌, ◌++◌}
use native.Mathlib.Omega.{arith}
use lib.ListN.{length, take, drop}
use lib.Seq.{take-take}
use Rattle.rules.specs.declared.station.Station.{Station}
use Rattle.rules.specs.declared.run.Inputs.{Inputs}
use Rattle.rules.specs.declared.run.Row.{Row}
use Rattle.rules.specs.declared.run.Run.{Run}
use Rattle.rules.specs.declared.run.Step.{Step}
use Rattle.rules.specs.declared.run.Worked.{Worked}
use Rattle.rules.specs.Answers.{Answer, accepted, refused}
use Rattle.rules.specs.Second.{step}
use Rattle.rules.specs.Seconds.{inputs_each, numbers_of, ruled, WorkedSeconds, came_on, came_to, came_of, Seconds}
use Rattle.laws.proofs.Kept.{admitted_of}
use Rattle.admission.proofs.Counted.{EndsBy, ends_by}
use Rattle.admission.proofs.Each.{each-length, each_take}
use Rattle.dispatch.specs.Working.{run_after, rows_of, Admits, none, more, Works}

-- ---- those that are worked are admitted, and come to the record and the rows of their steps

pub record CameBy (st : Station) (r : Run) (xs : List Inputs) (c : WorkedSeconds) : Type 0 where
  pub admits : Admits st r (take (length c.rows) xs)
  pub run_is : c.run ≡ run_after st (take (length c.rows) xs) r
  pub rows_are : c.rows ≡ rows_of st (take (length c.rows) xs) r

module _ (st : Station) where
  came-on : (r : Run) (x : Inputs) (xs : List Inputs) (room : ℕ) (a : Answer Step) → ruled st r x ≡ a
      → CameBy st (step st r x).run xs (came_to st (step st r x).run xs room) → CameBy st r (x ∷ xs) (came_on r a (λ s. came_to st s.run xs room))
  unfolding run_after rows_of
  came-on r x xs room (accepted s) e later =
      let a = admitted_of st r x 256 s e in
      rw (sym a.1) (record {
        admits = more a.0 later.admits;
        run_is = later.run_is;
        rows_are = ap (λ (l : List Row). (step st r x).row ∷ l) later.rows_are;
      })
  came-on r x xs room (refused n p) e later = record { admits = none; run_is = refl; rows_are = refl }

  pub came-by : (r : Run) (xs : List Inputs) (room : ℕ) → CameBy st r xs (came_to st r xs room)
  unfolding came_to run_after rows_of
  came-by r [] room = record { admits = none; run_is = refl; rows_are = refl }
  came-by r (x ∷ xs) zero = record { admits = none; run_is = refl; rows_are = refl }
  came-by r (x ∷ xs) (suc room) = came-on r x xs room (ruled st r x) refl (came-by (step st r x).run xs room)

-- ---- as many as were judged, worked

module _ (st : Station) (r : Run) (inputs lent : List ℕ) (n : ℕ) (is : n ≡ length (came_of st r inputs lent).rows) where
  abbrev by : CameBy st r (inputs_each inputs) (came_of st r inputs lent)
  by = came-by st r (inputs_each inputs) (length lent / 13)

  abbrev within : EndsBy (length (inputs_each inputs)) (length lent / 13) (came_of st r inputs lent)
  within = ends_by st r (inputs_each inputs) (length lent / 13)

  pub asked_in : 3 * n ≤ length inputs
  asked_in = omega (arith, is, within.in-range, each-length inputs)

  pub places-in : 13 * n ≤ length lent
  places-in = omega (arith, is, within.in-room)

  first-are : inputs_each (take (3 * n) inputs) ≡ take n (inputs_each inputs)
  first-are = each_take n inputs asked_in

  pub all-admits : Admits st r (inputs_each (take (3 * n) inputs))
  all-admits = subst (Admits st r) (sym first-are) (rw (← is) at by.admits)

  pub all-worked : (w : Worked) (left : List ℕ) → Works st r (inputs_each (take (3 * n) inputs)) lent n w.run left → w.seconds ≡ n → w.ended ≡ (came_of st r inputs lent).ended → Seconds st r inputs lent w left
  all-worked w left k count end =
      let same : take n (inputs_each (take (3 * n) inputs)) ≡ take (length (came_of st r inputs lent).rows) (inputs_each inputs) =
      ap (take n) first-are ∙ take-take n n (inputs_each inputs) (omega arith) ∙ ap (λ (m : ℕ). take m (inputs_each inputs)) is
      in
      record {
        hands = k.after ∙ ap (λ (l : List Inputs). run_after st l r) same ∙ sym by.run_is;
        counts = count ∙ is;
        ends = end;
        leaves =
            k.numbers ∙ ap (λ (l : List Inputs). numbers_of (rows_of st l r) ++ drop (13 * n) lent) same
            ∙ ap (λ (l : List Row). numbers_of l ++ drop (13 * n) lent) (sym by.rows_are)
            ∙ ap (λ (m : ℕ). numbers_of (came_of st r inputs lent).rows ++ drop (13 * m) lent) is;
      }
