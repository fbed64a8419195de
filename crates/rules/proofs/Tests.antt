-- Laws of tests: from a test that passed to the fact, and back. Assumes nothing.
use Rattle.std.specs.Prelude.{if◌then◌else◌}
use Prim.Native.Nat.{ℕ, zero, suc, ◌+◌, ◌≤◌, ◌<◌}
use mathlib.Core.Path.{◌≡◌, refl, sym, ap, ◌∙◌}
use mathlib.Core.Bool.{Bool, true, false, ◌&&◌}
use mathlib.Core.List.{List, [], ◌∷◌, ◌++◌}
use native.Mathlib.Omega.{arith}
use native.Mathlib.Decide.{dec_lt}
use native.Mathlib.Nat.{not-suc-le-zero}
use native.Mathlib.Numerals.{add-one}
use lib.Dec.{leb}
use lib.ListN.{length, get_or, drop, drop_of_length-le}
use lib.Seq.{drop-cons}
use borrow.Author.Tests.{leb-true, le-leb, lt-leb}
use Rattle.rules.specs.Numbers.{within, all_to, all_from, all_hold, every}

-- nothing is both true and false
pub never : {A : Type 0} → false ≡ true → A
never e = absurd (let z : ◌≡◌ {A = ℕ} 0 1 = cc in omega arith)

-- both of two tests
pub both : (a b : Bool) → a && b ≡ true → (a ≡ true) × (b ≡ true)
both true b h = (refl, h)
both false b h = never h

pub and-true : {a b : Bool} → a ≡ true → b ≡ true → a && b ≡ true
and-true {a} {b} p q = rw (p, q)

-- each test of a list, and the one that stands before them
all-from : (b : Bool) (bs : List Bool) → all_from b bs ≡ true → (b ≡ true) × ((i : ℕ) → get_or bs i true ≡ true)
all-from b [] h = (h, λ i. refl)
all-from b (c ∷ cs) h = let t = all-from (b && c) cs h in let p = both b c t.0 in (p.0, elim [ zero ↦ p.1 | suc i ↦ t.1 i ])

-- the test at a place, of `all_hold` tests
pub all-at : (bs : List Bool) (i : ℕ) → all_hold bs ≡ true → get_or bs i true ≡ true
all-at bs i h = (all-from true bs h).1 i

-- a test of every place below n holds at each
pub to_at : (p : ℕ → Bool) (n : ℕ) → all_to n p ≡ true → (i : ℕ) → i < n → p i ≡ true
unfolding all_to
to_at p zero h i l = absurd (not-suc-le-zero l)
to_at p (suc n) h i l = let t = both (all_to n p) (p n) h in go (to_at p n t.0 i) t.1 (dec_lt i n)
  where
    go : (i < n → p i ≡ true) → p n ≡ true → Dec (i < n) → p i ≡ true
    go before here (yes k) = before k
    go before here (no k) = let e : i ≡ n = omega (arith, k) in rw e here

-- a test that holds at each place below n
pub to-all : (p : ℕ → Bool) (n : ℕ) → ((i : ℕ) → i < n → p i ≡ true) → all_to n p ≡ true
unfolding all_to
to-all p zero h = refl
to-all p (suc n) h = and-true (to-all p n (λ i l. h i (omega arith))) (h n (omega arith))

-- one place more, as a loop tests it
pub all-turn : (p : ℕ → Bool) (i : ℕ) (ok b : Bool) → ok ≡ all_to i p → b ≡ p i → ok && b ≡ all_to (i + 1) p
unfolding all_to
all-turn p i ok b e q = rw (add-one i, e, q)

pub every_append : {A : Type 0} (p : A → Bool) (xs ys : List A) → every p xs ≡ true → every p ys ≡ true → every p (xs ++ ys) ≡ true
unfolding every
every_append p [] ys h k = k
every_append p (x ∷ xs) ys h k = let t = both (p x) (every p xs) h in and-true t.0 (every_append p xs ys t.1 k)

-- ---- every element of a list from a place on, as a loop tests them one by one

module _ {A : Type 0} (p : A → Bool) (l : List A) (i : ℕ) (whole ok : Bool) (from : whole ≡ ok && every p (drop i l)) where
  pub every-turn : (d : A) (b : Bool) → i < length l → b ≡ p (get_or l i d) → whole ≡ ok && b && every p (drop (i + 1) l)
  unfolding every
  every-turn d b h e = rw (add-one i, e) (from ∙ ap (λ (x : List A). ok && every p x) (drop-cons l i d h) ∙ go ok)
    where
      go : (o : Bool) → o && (p (get_or l i d) && every p (drop (suc i) l)) ≡ o && p (get_or l i d) && every p (drop (suc i) l)
      go true = refl
      go false = refl

  pub every-end : length l ≤ i → ok ≡ whole
  unfolding every
  every-end h = sym (from ∙ ap (λ (x : List A). ok && every p x) (drop_of_length-le l h) ∙ go ok)
    where
      go : (o : Bool) → o && true ≡ o
      go true = refl
      go false = refl

-- a number within its range
pub within-fact : (least most n : ℕ) → within least most n ≡ true → (least ≤ n) × (n ≤ most)
within-fact least most n h = let t = both (leb least n) (leb n most) h in (leb-true least n t.0, leb-true n most t.1)

pub fact-within : (least most n : ℕ) → least ≤ n → n ≤ most → within least most n ≡ true
fact-within least most n p q = and-true (le-leb least n p) (le-leb n most q)

-- a number over its range
pub over-range : (least most n : ℕ) → most < n → within least most n ≡ false
over-range least most n h = rw (lt-leb n most h) (and-false (leb least n))
  where
    and-false : (b : Bool) → b && false ≡ false
    and-false true = refl
    and-false false = refl

-- a choice between two values with a fact of both
pub choice : {A : Type 0} (P : A → Type 0) (b : Bool) (x y : A) → (b ≡ true → P x) → (b ≡ false → P y) → P (if b then x else y)
choice P true x y h k = h refl
choice P false x y h k = k refl
