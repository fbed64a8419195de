-- How many seconds of a call are worked, by how many of them the rules admit, and why no more. Assumes nothing.
use Rattle.std.specs.Prelude.{if◌then◌else◌}
use Prim.Native.Nat.{ℕ, zero, suc, ◌+◌, ◌≤◌, min}
use mathlib.Core.Path.{◌≡◌, refl, sym, ap, ◌∙◌}
use mathlib.Core.Bool.{Bool, true, false}
use mathlib.Core.List.{List, [], ◌∷◌}
use native.Mathlib.Omega.{arith}
use lib.Dec.{eqb}
use borrow.Author.Tests.{eqb-true, eqb-false, eq-eqb, ne_eqb}
use lib.ListN.{length}
use Rattle.rules.specs.declared.answers.Ended.TheVariants.{NoRoom, BeforeRefused}
use Rattle.rules.specs.declared.station.Station.{Station}
use Rattle.rules.specs.declared.run.Inputs.{Inputs}
use Rattle.rules.specs.declared.run.Run.{Run}
use Rattle.rules.specs.declared.run.Step.{Step}
use Rattle.rules.specs.Answers.{Answer, accepted, refused, is_accepted, ◌>>◌}
use Rattle.rules.specs.StationRecord.{some_file_gives}
use Rattle.rules.specs.RunRecord.{possible}
use Rattle.rules.specs.Second.{step, record_after, admitted}
use Rattle.rules.specs.Seconds.{ruled, WorkedSeconds, came_on, came_to}
use Rattle.rules.proofs.Shapes.{Tables}
use Rattle.rules.proofs.Edges.{second-25, second-24}
use Rattle.rules.proofs.Tests.{never}
use Rattle.laws.proofs.Kept.{judged-is, second-kept}
use Rattle.admission.specs.Admission.{admitted_to, admitted_of, ended_at}

-- ---- why they are no more, by how many

eqb-suc : (a b : ℕ) → eqb (suc a) (suc b) ≡ eqb a b
eqb-suc a b = go (eqb a b) refl
  where
    go : (q : Bool) → eqb a b ≡ q → eqb (suc a) (suc b) ≡ q
    go true e = eq-eqb (suc a) (suc b) (ap suc (eqb-true a b e))
    go false e = ne_eqb (suc a) (suc b) (λ q. eqb-false a b e (omega arith))

ended-more : (n asked room : ℕ) → ended_at (suc n) (suc asked) (suc room) ≡ ended_at n asked room
unfolding ended_at
ended-more n asked room = rw (eqb-suc n asked, eqb-suc n room)

none-fits : (asked : ℕ) → ended_at 0 (suc asked) 0 ≡ NoRoom
unfolding ended_at
none-fits asked = rw (ne_eqb 0 (suc asked) (λ e. omega arith))

none-admitted : (asked room : ℕ) → ended_at 0 (suc asked) (suc room) ≡ BeforeRefused
unfolding ended_at
none-admitted asked room = rw (ne_eqb 0 (suc asked) (λ e. omega arith), ne_eqb 0 (suc room) (λ e. omega arith))

-- no more than are asked and have room
pub record EndsBy (asked room : ℕ) (c : WorkedSeconds) : Type 0 where
  pub in-range : length c.rows ≤ asked
  pub in-room : length c.rows ≤ room
  pub ended_is : c.ended ≡ ended_at (length c.rows) asked room

module _ (st : Station) where
  ends_on : (r : Run) (xs : List Inputs) (room : ℕ) (a : Answer Step) → ((s : Step) → EndsBy (length xs) room (came_to st s.run xs room))
      → EndsBy (suc (length xs)) (suc room) (came_on r a (λ s. came_to st s.run xs room))
  ends_on r xs room (accepted s) later =
      record {
        in-range = omega (arith, (later s).in-range);
        in-room = omega (arith, (later s).in-room);
        ended_is = (later s).ended_is ∙ sym (ended-more (length (came_to st s.run xs room).rows) (length xs) room);
      }
  ends_on r xs room (refused n p) later = record { in-range = omega arith; in-room = omega arith; ended_is = sym (none-admitted (length xs) room) }

  pub ends_by : (r : Run) (xs : List Inputs) (room : ℕ) → EndsBy (length xs) room (came_to st r xs room)
  unfolding came_to ended_at
  ends_by r [] room = record { in-range = omega arith; in-room = omega arith; ended_is = refl }
  ends_by r (x ∷ xs) zero = record { in-range = omega arith; in-room = omega arith; ended_is = sym (none-fits (length xs)) }
  ends_by r (x ∷ xs) (suc room) = ends_on r xs room (ruled st r x) (λ s. ends_by s.run xs room)

  -- ---- how many they are

  none_came : (r : Run) (xs : List Inputs) (room : ℕ) → ((x : Inputs) → is_accepted (ruled st r x) ≡ false) → length (came_to st r xs room).rows ≡ 0
  unfolding came_to
  none_came r [] room h = refl
  none_came r (x ∷ xs) zero h = refl
  none_came r (x ∷ xs) (suc room) h = go (ruled st r x) (h x)
    where
      go : (a : Answer Step) → is_accepted a ≡ false → length (came_on r a (λ s. came_to st s.run xs room)).rows ≡ 0
      go (accepted s) e = never (sym e)
      go (refused n p) e = refl

  module _ (given : some_file_gives st ≡ true) (tables : Tables st) where
    counted-on : (r : Run) (x : Inputs) (xs : List Inputs) (room : ℕ) (b : Answer (Unit {0})) → possible st r ≡ true → admitted r.done x 256 ≡ b
        → (possible st (step st r x).run ≡ true → length (came_to st (step st r x).run xs room).rows ≡ admitted_to (step st r x).run.done xs room)
        → length (came_on r (b >> accepted (step st r x)) (λ s. came_to st s.run xs room)).rows ≡ (if is_accepted b then suc (admitted_to (r.done + 1) xs room) else 0)
    unfolding step record_after
    counted-on r x xs room (accepted u) p e later =
        let is = judged-is st r x 256 given p ∙ ap (λ (b : Answer (Unit {0})). b >> accepted (step st r x)) e in
        ap suc (later (second-kept st tables r x 256 (step st r x) is))
    counted-on r x xs room (refused n q) p e later = refl

    counted-to : (r : Run) (xs : List Inputs) (room : ℕ) → possible st r ≡ true → length (came_to st r xs room).rows ≡ admitted_to r.done xs room
    unfolding came_to admitted_to
    counted-to r [] room p = refl
    counted-to r (x ∷ xs) zero p = refl
    counted-to r (x ∷ xs) (suc room) p =
        ap (λ (a : Answer Step). length (came_on r a (λ s. came_to st s.run xs room)).rows) (judged-is st r x 256 given p)
        ∙ counted-on r x xs room (admitted r.done x 256) p refl (λ k. counted-to (step st r x).run xs room k)

  pub came-count : Tables st → (r : Run) (xs : List Inputs) (room : ℕ) → length (came_to st r xs room).rows ≡ admitted_of st r xs room
  unfolding admitted_of
  came-count tables r xs room = go (some_file_gives st) (possible st r) refl refl
    where
      go : (a b : Bool) → some_file_gives st ≡ a → possible st r ≡ b → length (came_to st r xs room).rows ≡ (if a then (if b then admitted_to r.done xs room else 0) else 0)
      go true true e k = counted-to e tables r xs room k
      go true false e k = none_came r xs room (λ x. ap is_accepted (second-24 st r x 256 e k))
      go false b e k = none_came r xs room (λ x. ap is_accepted (second-25 st r x 256 e))

-- ---- no more room than there are seconds asks for nothing else

pub enough-room : (done : ℕ) (xs : List Inputs) (room : ℕ) → admitted_to done xs (min (length xs) room) ≡ admitted_to done xs room
unfolding admitted_to
enough-room done [] room = refl
enough-room done (x ∷ xs) zero = let e : min (suc (length xs)) 0 ≡ 0 = omega arith in rw e
enough-room done (x ∷ xs) (suc room) =
    let e : min (suc (length xs)) (suc room) ≡ suc (min (length xs) room) = omega arith in
    rw (e, enough-room (done + 1) xs room)
