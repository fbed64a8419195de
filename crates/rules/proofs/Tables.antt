-- Laws of the tables and masks of specs/Numbers.antt, and of the first elements of a list. Assumes nothing.
use Prim.Native.Nat.{ℕ, zero, suc, ◌+◌, ◌/◌, ◌^◌, ◌≤◌, ◌<◌, min}
use mathlib.Core.Path.{◌≡◌, refl, sym, ap, ◌∙◌}
use mathlib.Core.Bool.{false}
use mathlib.Core.List.{List, [], ◌∷◌, ◌++◌}
use native.Mathlib.Omega.{arith}
use native.Mathlib.Decide.{dec_lt}
use native.Mathlib.Nat.{not-suc-le-zero, lt_of_lt_of_le, div-eq_of_lt, zero-min}
use lib.ListN.{length, get_or, take, length-append, get_or-append}
use lib.Seq.{get_or-append-add, take-nil}
use lib.Pow.{pow_mono}
use Rattle.rules.specs.Numbers.{has, tab}

pub length-tab : {A : Type 0} (f : ℕ → A) (n : ℕ) → length (tab n f) ≡ n
unfolding tab
length-tab f zero = refl
length-tab f (suc n) =
    let h = length-tab f n in
    length-append (tab n f) (f n ∷ []) ∙ (let e : length (tab n f) + 1 ≡ suc n = omega arith in e)

-- a table at one of its places
pub tab-at : {A : Type 0} (f : ℕ → A) (n i : ℕ) (d : A) → i < n → get_or (tab n f) i d ≡ f i
unfolding tab
tab-at f zero i d h = absurd (not-suc-le-zero h)
tab-at f (suc n) i d h = go (tab-at f n i d) (length-tab f n) (dec_lt i n)
  where
    go : (i < n → get_or (tab n f) i d ≡ f i) → length (tab n f) ≡ n → Dec (i < n) → get_or (tab n f ++ (f n ∷ [])) i d ≡ f i
    go before l (yes k) = get_or-append (tab n f) (f n ∷ []) d i (omega arith) ∙ before k
    go before l (no k) =
        let e : i ≡ length (tab n f) + 0 = omega (arith, k) in
        let q : i ≡ n = omega (arith, k) in
        ap (λ (x : ℕ). get_or (tab n f ++ (f n ∷ [])) x d) e ∙ get_or-append-add (tab n f) (f n ∷ []) 0 d ∙ ap f (sym q)

-- no more than the whole list is taken
pub take-least : {A : Type 0} (n : ℕ) (l : List A) → take (min n (length l)) l ≡ take n l
take-least zero l = ap (λ (k : ℕ). take k l) (zero-min (length l))
take-least (suc n) [] = take-nil (min (suc n) 0)
take-least {A} (suc n) (x ∷ l) =
    let e : min (suc n) (suc (length l)) ≡ suc (min n (length l)) = omega arith in
    ap (λ (k : ℕ). take k (x ∷ l)) e ∙ ap (λ (m : List A). x ∷ m) (take-least n l)

-- a mask of n sets has none beyond them
pub has-beyond : (n mask i : ℕ) → mask < 2 ^ n → n ≤ i → has mask i ≡ false
has-beyond n mask i h l =
    let e : mask / 2 ^ i ≡ 0 = div-eq_of_lt (lt_of_lt_of_le h (pow_mono l)) in
    rw e
