-- What a call of many seconds comes to: the seconds that it accepted, in their order; and it accepts all of them where their inputs are
-- right and their rows have places. Assumes nothing.
use Prim.Native.Nat.{ℕ, zero, suc, ◌+◌, ◌≤◌, ◌<◌}
use mathlib.Core.Path.{◌≡◌, refl, sym, ap, ◌∙◌}
use mathlib.Core.Bool.{true}
use mathlib.Core.List.{List, [], ◌∷◌, ◌++◌}
use native.Mathlib.Omega.{arith}
use lib.ListN.{length}
use borrow.Author.Tests.{le-leb, lt-ltb}
use Rattle.rules.specs.declared.answers.Ended.{Ended}
use Rattle.rules.specs.declared.answers.Ended.TheVariants.{AllWorked, NoRoom, BeforeRefused}
use Rattle.rules.specs.declared.station.Station.{Station}
use Rattle.rules.specs.declared.run.Inputs.{Inputs}
use Rattle.rules.specs.declared.run.Row.{Row}
use Rattle.rules.specs.declared.run.Run.{Run}
use Rattle.rules.specs.declared.run.Step.{Step}
use Rattle.rules.specs.Answers.{Answer, accepted, refused}
use Rattle.rules.specs.StationRecord.{some_file_gives}
use Rattle.rules.specs.RunRecord.{possible, most_seconds}
use Rattle.rules.specs.Second.{step, record_after, second, admitted, inputs_right}
use Rattle.rules.specs.Seconds.{ruled, WorkedSeconds, came_on, came_to}
use Rattle.rules.proofs.Shapes.{Tables}
use Rattle.laws.proofs.Kept.{admitted_of, second-kept}
use Rattle.dispatch.specs.Working.{rows_of, run_after}
use Rattle.course.specs.Ruled.{AllRuled, Right, AllRight, none, more}

module _ (st : Station) where
  -- ---- whatever the inputs are

  -- the seconds from a record on came to c: `worked` are those accepted, and all of them where there is room and nothing was refused
  pub record Some (r : Run) (xs : List Inputs) (room : ℕ) (c : WorkedSeconds) : Type 0 where
    pub worked : List Inputs
    pub others : List Inputs
    pub are : xs ≡ worked ++ others
    pub accepts : AllRuled st worked r
    pub rows_is : c.rows ≡ rows_of st worked r
    pub run_is : c.run ≡ run_after st worked r
    pub fits : length worked ≤ room
    pub all : c.ended ≡ AllWorked → others ≡ []
    pub roomy : length xs ≤ room → c.ended ≡ NoRoom → ⊥

  none-worked : (r : Run) (xs : List Inputs) (room : ℕ) (e : Ended) → (e ≡ AllWorked → xs ≡ []) → (length xs ≤ room → e ≡ NoRoom → ⊥) → Some r xs room (record { run = r; rows = []; ended = e })
  unfolding rows_of run_after AllRuled
  none-worked r xs room e h k = record { worked = []; others = xs; are = refl; accepts = tt; rows_is = refl; run_is = refl; fits = omega arith; all = h; roomy = k }

  one_more : (r : Run) (x : Inputs) (xs : List Inputs) (room : ℕ) (c : WorkedSeconds) → ruled st r x ≡ accepted (step st r x) → Some (step st r x).run xs room c
      → Some r (x ∷ xs) (suc room) (record { run = c.run; rows = (step st r x).row ∷ c.rows; ended = c.ended })
  unfolding rows_of run_after AllRuled
  one_more r x xs room c a s =
      record {
        worked = x ∷ s.worked;
        others = s.others;
        are = ap (λ (l : List Inputs). x ∷ l) s.are;
        accepts = (a, s.accepts);
        rows_is = ap (λ (l : List Row). (step st r x).row ∷ l) s.rows_is;
        run_is = s.run_is;
        fits = omega (arith, s.fits);
        all = s.all;
        roomy = λ h e. s.roomy (omega arith) e;
      }

  by_answer : (a : Answer Step) (r : Run) (x : Inputs) (xs : List Inputs) (room : ℕ) → ruled st r x ≡ a
      → ((s : Step) → Some s.run xs room (came_to st s.run xs room)) → Some r (x ∷ xs) (suc room) (came_on r a (λ s. came_to st s.run xs room))
  by_answer (accepted s) r x xs room e later =
      let z : step st r x ≡ s = (admitted_of st r x 256 s e).1 in
      rw (sym z) (one_more r x xs room (came_to st (step st r x).run xs room) (e ∙ ap accepted (sym z)) (later (step st r x)))
  by_answer (refused n p) r x xs room e later =
      none-worked r (x ∷ xs) (suc room) BeforeRefused (λ h. absurd (let z : ◌≡◌ {A = ℕ} 0 1 = cc h in omega arith)) (λ h k. absurd (let z : ◌≡◌ {A = ℕ} 0 1 = cc k in omega arith))

  pub some-worked : (r : Run) (xs : List Inputs) (room : ℕ) → Some r xs room (came_to st r xs room)
  unfolding came_to
  some-worked r [] room = none-worked r [] room AllWorked (λ e. refl) (λ h e. absurd (let z : ◌≡◌ {A = ℕ} 0 1 = cc e in omega arith))
  some-worked r (x ∷ xs) zero = none-worked r (x ∷ xs) zero NoRoom (λ e. absurd (let z : ◌≡◌ {A = ℕ} 0 1 = cc e in omega arith)) (λ h e. omega arith)
  some-worked r (x ∷ xs) (suc room) = by_answer (ruled st r x) r x xs room refl (λ s. some-worked s.run xs room)

  -- ---- right inputs, with places

  module _ (given : some_file_gives st ≡ true) (tables : Tables st) where
    module _ (r : Run) (x : Inputs) (was-possible : possible st r ≡ true) (in-time : r.done < most_seconds) (right : Right x) where
      inputs-pass : inputs_right x ≡ true
      inputs-pass = rw (le-leb _ _ right.load-most, le-leb _ _ right.solar-most, le-leb _ _ right.sheddable-most)

      admits : admitted r.done x 256 ≡ accepted tt
      unfolding admitted
      admits = rw (lt-ltb _ _ in-time, inputs-pass, le-leb _ _ right.sheddable-load)

      accepts : ruled st r x ≡ accepted (step st r x)
      unfolding second
      accepts = rw (given, was-possible, admits)

      stays-possible : possible st (step st r x).run ≡ true
      stays-possible = second-kept st tables r x 256 (step st r x) accepts

      done-is : (step st r x).run.done ≡ r.done + 1
      unfolding step record_after
      done-is = refl

    -- the seconds from a record on are all accepted, and leave a possible record
    pub record All (r : Run) (xs : List Inputs) (c : WorkedSeconds) : Type 0 where
      pub ends : c.ended ≡ AllWorked
      pub stays : possible st c.run ≡ true
      pub done-is : c.run.done ≡ r.done + length xs

    pub all-worked : (r : Run) (xs : List Inputs) (room : ℕ) → possible st r ≡ true → AllRight xs
        → r.done + length xs ≤ most_seconds → length xs ≤ room → All r xs (came_to st r xs room)
    unfolding came_to
    all-worked r [] room p none t f = record { ends = refl; stays = p; done-is = omega arith }
    all-worked r (x ∷ xs) zero p (more right rights) t f = absurd (omega arith)
    all-worked r (x ∷ xs) (suc room) p (more right rights) t f =
        let in-time : r.done < most_seconds = omega arith in
        let a = accepts r x p in-time right in
        let d = done-is r x p in-time right in
        let s = step st r x in
        let later = all-worked s.run xs room (stays-possible r x p in-time right) rights (omega (arith, d)) (omega arith) in
        let same : came_to st r (x ∷ xs) (suc room) ≡ came_on r (accepted s) (λ s. came_to st s.run xs room) = ap (λ (b : Answer Step). came_on r b (λ s. came_to st s.run xs room)) a in
        record {
          ends = ap (λ (c : WorkedSeconds). c.ended) same ∙ later.ends;
          stays = ap (λ (c : WorkedSeconds). possible st c.run) same ∙ later.stays;
          done-is = ap (λ (c : WorkedSeconds). c.run.done) same ∙ later.done-is ∙ (let z : s.run.done + length xs ≡ r.done + length (x ∷ xs) = omega (arith, d) in z);
        }
