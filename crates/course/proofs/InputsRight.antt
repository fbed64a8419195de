-- What a second is handed of right rows is right. Assumes nothing.
use Rattle.std.specs.Prelude.{if◌then◌else◌}
use Prim.Native.Nat.{ℕ, zero, suc, ◌≤◌}
use mathlib.Core.Path.{◌≡◌, refl, ap}
use mathlib.Core.Bool.{Bool, true, false}
use mathlib.Core.List.{List, [], ◌∷◌, ◌++◌}
use native.Mathlib.Omega.{arith}
use lib.Dec.{leb}
use lib.ListN.{length, drop}
use Rattle.rules.specs.declared.run.Inputs.{Inputs}
use Rattle.rules.specs.declared.samples.Sample.{Sample}
use Rattle.rules.specs.SampleFile.{holding}
use Rattle.rules.specs.Run.{inputs_of}
use Rattle.rows_in_force.specs.Held.{held_from}
use Rattle.held_inputs.specs.Filling.{inputs_in}
use Rattle.course.specs.Ruled.{Right, AllRight, none, more}
use Rattle.course.specs.Coming.{inputs_all}

-- the row in force at a second
holding-right : (now : Sample) (rows : List Sample) (t : ℕ) → AllRight (inputs_all (now ∷ rows)) → Right (inputs_of (holding now rows t))
unfolding holding
holding-right now [] t (more right rights) = right
holding-right now (x ∷ rows) t (more right rights) = by-time (leb x.at t) (holding-right x rows t rights)
  where
    by-time : (b : Bool) → Right (inputs_of (holding x rows t)) → Right (inputs_of (if b then holding x rows t else now))
    by-time true later = later
    by-time false later = right

pub held-right : (now : Sample) (rows : List Sample) (t n : ℕ) → AllRight (inputs_all (now ∷ rows)) → AllRight (held_from now rows t n)
unfolding held_from
held-right now rows t zero right = none
held-right now rows t (suc n) right = more (holding-right now rows t right) (held-right now rows (suc t) n right)

pub first-right : (xs ys : List Inputs) → AllRight (xs ++ ys) → AllRight xs
first-right [] ys right = none
first-right (x ∷ xs) ys (more right rights) = more right (first-right xs ys rights)

pub drop-right : (k : ℕ) (rows : List Sample) → AllRight (inputs_all rows) → AllRight (inputs_all (drop k rows))
drop-right zero rows right = right
drop-right (suc k) [] right = right
drop-right (suc k) (x ∷ rows) (more right rights) = drop-right k rows rights

-- as many inputs as places
pub in-length : (n : ℕ) (loads solars sheddables : List ℕ) → n ≤ length loads → n ≤ length solars → n ≤ length sheddables → length (inputs_in n loads solars sheddables) ≡ n
unfolding inputs_in
in-length zero loads solars sheddables a b c = refl
in-length (suc n) [] solars sheddables a b c = absurd (omega arith)
in-length (suc n) (l ∷ loads) [] sheddables a b c = absurd (omega arith)
in-length (suc n) (l ∷ loads) (s ∷ solars) [] a b c = absurd (omega arith)
in-length (suc n) (l ∷ loads) (s ∷ solars) (h ∷ sheddables) a b c = ap suc (in-length n loads solars sheddables (omega arith) (omega arith) (omega arith))

pub held-length : (now : Sample) (rows : List Sample) (t n : ℕ) → length (held_from now rows t n) ≡ n
unfolding held_from
held-length now rows t zero = refl
held-length now rows t (suc n) = ap suc (held-length now rows (suc t) n)
