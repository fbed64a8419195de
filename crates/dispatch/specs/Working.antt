-- Many seconds as they are worked: what those that the rules admit one after the other come to on the way.
use Rattle.std.specs.Prelude.{ℕ, ◌*◌, ◌≤◌, ◌≡◌, List, [], ◌∷◌, ◌++◌, length, take, drop}
use Rattle.rules.specs.declared.station.Station.{Station}
use Rattle.rules.specs.declared.run.Inputs.{Inputs}
use Rattle.rules.specs.declared.run.Row.{Row}
use Rattle.rules.specs.declared.run.Run.{Run}
use Rattle.rules.specs.Second.{step}
use Rattle.rules.specs.Seconds.{numbers_of}
use Rattle.laws.specs.Admitted.{Admitted}

-- the record after the seconds of these inputs, and their rows
unfoldable pub run_after : Station → List Inputs → Run → Run
run_after st [] r = r
run_after st (x ∷ xs) r = run_after st xs (step st r x).run

unfoldable pub rows_of : Station → List Inputs → Run → List Row
rows_of st [] r = []
rows_of st (x ∷ xs) r = (step st r x).row ∷ rows_of st xs (step st r x).run

-- the rules admit each of these seconds, one after the other
pub data Admits (st : Station) : Run → List Inputs → Type 0 where
  none : {r : Run} → Admits st r []
  more : {r : Run} {x : Inputs} {xs : List Inputs} → Admitted st r x → Admits st (step st r x).run xs → Admits st r (x ∷ xs)

-- the first n of them worked from r have come to r', and their rows stand at the front of the rows lent
pub record Works (st : Station) (r : Run) (xs : List Inputs) (lent : List ℕ) (n : ℕ) (r' : Run) (rows : List ℕ) : Type 0 where
  pub after : r' ≡ run_after st (take n xs) r
  pub numbers : rows ≡ numbers_of (rows_of st (take n xs) r) ++ drop (13 * n) lent
  pub admits : Admits st r' (drop n xs)
  pub most : n ≤ length xs
