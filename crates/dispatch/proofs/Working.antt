-- Seconds worked one after the other: their records and rows follow from their steps, wherever the work is cut. Assumes nothing.
use Prim.Native.Nat.{ℕ, zero, suc, ◌+◌, ◌-◌, ◌*◌, ◌≤◌, ◌<◌}
use mathlib.Core.Path.{◌≡◌, refl, sym, ap, ◌∙◌, subst}
use mathlib.Core.List.{List, [], ◌∷◌, ◌++◌, append_assoc, append-nil}
use native.Mathlib.Omega.{arith}
use lib.ListN.{length, take, drop, length-append, length-take, length-drop}
use lib.Seq.{drop-drop, drop-length, take-take, take-add, drop_at, take_at, length-take-le}
use borrow.Author.Tests.{le-leb}
use Rattle.rules.specs.declared.station.Station.{Station}
use Rattle.rules.specs.declared.run.Inputs.{Inputs}
use Rattle.rules.specs.declared.run.Row.{Row}
use Rattle.rules.specs.declared.run.Run.{Run}
use Rattle.rules.specs.Row.{columns}
use Rattle.rules.specs.Second.{step}
use Rattle.rules.specs.Seconds.{numbers_of}
use Rattle.laws.specs.Admitted.{Admitted}
use Rattle.rows.specs.RowNumbers.{row_first}
use Rattle.rows.proofs.RowNumbers.{numbers-length}
use Rattle.dispatch.specs.Working.{run_after, rows_of, Admits, none, more, Works}

-- ---- records and rows of some seconds and then of others

pub run_on : (st : Station) (xs ys : List Inputs) (r : Run) → run_after st (xs ++ ys) r ≡ run_after st ys (run_after st xs r)
unfolding run_after
run_on st [] ys r = refl
run_on st (x ∷ xs) ys r = run_on st xs ys (step st r x).run

pub rows_on : (st : Station) (xs ys : List Inputs) (r : Run) → rows_of st (xs ++ ys) r ≡ rows_of st xs r ++ rows_of st ys (run_after st xs r)
unfolding run_after rows_of
rows_on st [] ys r = refl
rows_on st (x ∷ xs) ys r = ap (λ (l : List Row). (step st r x).row ∷ l) (rows_on st xs ys (step st r x).run)

pub numbers_on : (a b : List Row) → numbers_of (a ++ b) ≡ numbers_of a ++ numbers_of b
unfolding numbers_of
numbers_on [] b = refl
numbers_on (r ∷ a) b = ap (λ (l : List ℕ). columns r ++ l) (numbers_on a b) ∙ sym (append_assoc (columns r) (numbers_of a) (numbers_of b))

pub rows-count : (st : Station) (xs : List Inputs) (r : Run) → length (rows_of st xs r) ≡ length xs
unfolding rows_of
rows-count st [] r = refl
rows-count st (x ∷ xs) r = ap suc (rows-count st xs (step st r x).run)

-- the numbers of the rows of the first n
pub rows-length : (st : Station) (xs : List Inputs) (r : Run) (n : ℕ) → n ≤ length xs → length (numbers_of (rows_of st (take n xs) r)) ≡ 13 * n
rows-length st xs r n l =
    numbers-length (rows_of st (take n xs) r) ∙ ap (λ (k : ℕ). 13 * k) (rows-count st (take n xs) r ∙ length-take-le n xs l)

-- ---- the seconds worked so far

pub works-start : (st : Station) (r : Run) (xs : List Inputs) (lent : List ℕ) → Admits st r xs → Works st r xs lent 0 r lent
unfolding run_after rows_of numbers_of
works-start st r xs lent h = record { after = refl; numbers = refl; admits = h; most = omega arith }

module _ {st : Station} {r : Run} {xs : List Inputs} {lent : List ℕ} {n : ℕ} {r' : Run} {rows : List ℕ} (h : Works st r xs lent n r' rows) where
  -- the lent rows keep their length
  pub works-length : 13 * n ≤ length lent → length rows ≡ length lent
  works-length l =
      ap length h.numbers ∙ length-append (numbers_of (rows_of st (take n xs) r)) (drop (13 * n) lent)
      ∙ (let e : length (numbers_of (rows_of st (take n xs) r)) + length (drop (13 * n) lent) ≡ length lent = omega (arith, rows-length st xs r n h.most, length-drop (13 * n) lent) in e)

  -- the rows that are left, and those that stand
  pub works-rest : drop (13 * n) rows ≡ drop (13 * n) lent
  works-rest = ap (drop (13 * n)) h.numbers ∙ drop_at (numbers_of (rows_of st (take n xs) r)) (drop (13 * n) lent) (13 * n) (rows-length st xs r n h.most)

  works-front : take (13 * n) rows ≡ numbers_of (rows_of st (take n xs) r)
  works-front = ap (take (13 * n)) h.numbers ∙ take_at (numbers_of (rows_of st (take n xs) r)) (drop (13 * n) lent) (13 * n) (rows-length st xs r n h.most)

  -- so many more of those that are left
  pub works-on : {m : ℕ} {r'' : Run} {tail : List ℕ} → Works st r' (drop n xs) (drop (13 * n) rows) m r'' tail → Works st r xs lent (n + m) r'' (take (13 * n) rows ++ tail)
  works-on {m} {r''} {tail} k =
      let cut : take (n + m) xs ≡ take n xs ++ take m (drop n xs) = take-add n m xs in
      let far : 13 * n + 13 * m ≡ 13 * (n + m) = omega arith in
      let later : run_after st (take m (drop n xs)) r' ≡ run_after st (take m (drop n xs)) (run_after st (take n xs) r) = ap (run_after st (take m (drop n xs))) h.after in
      let rest : drop (13 * m) (drop (13 * n) rows) ≡ drop (13 * (n + m)) lent = ap (drop (13 * m)) works-rest ∙ drop-drop (13 * m) (13 * n) lent ∙ ap (λ (q : ℕ). drop q lent) far in
      record {
        after = k.after ∙ later ∙ sym (run_on st (take n xs) (take m (drop n xs)) r) ∙ ap (λ (l : List Inputs). run_after st l r) (sym cut);
        numbers =
            ap (λ (l : List ℕ). l ++ tail) works-front
            ∙ ap (λ (l : List ℕ). numbers_of (rows_of st (take n xs) r) ++ l) (k.numbers ∙ ap (λ (z : Run). numbers_of (rows_of st (take m (drop n xs)) z) ++ drop (13 * m) (drop (13 * n) rows)) h.after ∙ ap (λ (l : List ℕ). numbers_of (rows_of st (take m (drop n xs)) (run_after st (take n xs) r)) ++ l) rest)
            ∙ sym (append_assoc (numbers_of (rows_of st (take n xs) r)) (numbers_of (rows_of st (take m (drop n xs)) (run_after st (take n xs) r))) (drop (13 * (n + m)) lent))
            ∙ ap (λ (l : List ℕ). l ++ drop (13 * (n + m)) lent) (sym (numbers_on (rows_of st (take n xs) r) (rows_of st (take m (drop n xs)) (run_after st (take n xs) r))))
            ∙ ap (λ (l : List Row). numbers_of l ++ drop (13 * (n + m)) lent) (sym (rows_on st (take n xs) (take m (drop n xs)) r))
            ∙ ap (λ (l : List Inputs). numbers_of (rows_of st l r) ++ drop (13 * (n + m)) lent) (sym cut);
        admits = subst (Admits st r'') (drop-drop m n xs) k.admits;
        most = omega (arith, k.most, h.most, length-drop n xs);
      }

-- ---- one second

abbrev pub head_or : Inputs → List Inputs → Inputs
head_or x [] = x
head_or x (y ∷ ys) = y

pub next-admitted : {st : Station} {r : Run} {x : Inputs} {xs : List Inputs} → Admits st r (x ∷ xs) → Admitted st r x
next-admitted (more h rest) = h

-- the first of some
pub first-admitted : {st : Station} {r : Run} {xs : List Inputs} → Admits st r xs → 0 < length xs → (x : Inputs) → Admitted st r (head_or x xs)
first-admitted none l x = absurd (omega arith)
first-admitted (more h rest) l x = h

pub others-admitted : {st : Station} {r : Run} {x : Inputs} {xs : List Inputs} → Admits st r (x ∷ xs) → Admits st (step st r x).run xs
others-admitted (more h rest) = rest

pub works-one : (st : Station) (r : Run) (x : Inputs) (xs : List Inputs) (lent : List ℕ) → Admits st r (x ∷ xs) → 13 ≤ length lent
    → Works st r (x ∷ xs) lent 1 (step st r x).run (row_first (step st r x).row lent)
unfolding run_after rows_of numbers_of row_first
works-one st r x xs lent h l = record {
  after = refl;
  numbers = rw (le-leb 13 (length lent) l) refl;
  admits = others-admitted h;
  most = omega arith;
}

-- ---- some of the seconds

pub admits-after : {st : Station} {r : Run} {xs : List Inputs} (n : ℕ) → Admits st r xs → n ≤ length xs → Admits st (run_after st (take n xs) r) (drop n xs)
unfolding run_after
admits-after zero h l = h
admits-after (suc n) none l = absurd (omega arith)
admits-after {st = st} {r = r} (suc n) (more {x = x} {xs = xs} h rest) l = admits-after {r = (step st r x).run} n rest (omega arith)

pub admits-first : {st : Station} {r : Run} {xs : List Inputs} (n : ℕ) → Admits st r xs → Admits st r (take n xs)
admits-first zero h = none
admits-first (suc n) none = none
admits-first {st = st} {r = r} (suc n) (more {x = x} {xs = xs} h rest) = more h (admits-first {r = (step st r x).run} n rest)

-- work on the first m of them is work on all
pub works-within : {st : Station} {r : Run} {xs : List Inputs} {lent : List ℕ} {n : ℕ} {r' : Run} {rows : List ℕ} (m : ℕ) → Admits st r xs → Works st r (take m xs) lent n r' rows → Works st r xs lent n r' rows
works-within {st} {r} {xs} {lent} {n} {r'} {rows} m h k =
    let few : n ≤ m = omega (arith, k.most, length-take m xs) in
    let all : n ≤ length xs = omega (arith, k.most, length-take m xs) in
    let same : take n (take m xs) ≡ take n xs = take-take n m xs few in
    let after : r' ≡ run_after st (take n xs) r = k.after ∙ ap (λ (l : List Inputs). run_after st l r) same in
    record {
      after = after;
      numbers = k.numbers ∙ ap (λ (l : List Inputs). numbers_of (rows_of st l r) ++ drop (13 * n) lent) same;
      admits = subst (λ (z : Run). Admits st z (drop n xs)) (sym after) (admits-after n h all);
      most = all;
    }

-- ---- the rest of the rows that was lent, and the rows when it has come back

pub back_is : (rows tail : List ℕ) (at : ℕ) → take at rows ++ (tail ++ drop (length rows - at) (drop at rows)) ≡ take at rows ++ tail
back_is rows tail at =
    let none : drop (length rows - at) (drop at rows) ≡ [] = ap (λ (n : ℕ). drop n (drop at rows)) (sym (length-drop at rows)) ∙ drop-length (drop at rows) in
    rw (none, append-nil)

-- a second more, by the one at the place that the work has come to
pub works-step : {st : Station} {r : Run} {xs : List Inputs} {lent : List ℕ} {n : ℕ} {r' : Run} {rows : List ℕ} → Works st r xs lent n r' rows
    → (x : Inputs) (others : List Inputs) → drop n xs ≡ x ∷ others → 13 ≤ length (drop (13 * n) rows)
    → Works st r xs lent (n + 1) (step st r' x).run (take (13 * n) rows ++ row_first (step st r' x).row (drop (13 * n) rows))
works-step {st} {r} {xs} {lent} {n} {r'} {rows} h x others e l =
    let left : Admits st r' (x ∷ others) = subst (Admits st r') e h.admits in
    works-on h (subst (λ (ys : List Inputs). Works st r' ys (drop (13 * n) rows) 1 (step st r' x).run (row_first (step st r' x).row (drop (13 * n) rows))) (sym e) (works-one st r' x others (drop (13 * n) rows) left l))
