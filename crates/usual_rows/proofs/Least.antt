-- Bytes that are not below n. Assumes nothing.
use Rattle.std.proofs.Common.{◌≡◌, ℕ, suc, ◌+◌, ◌<◌, ◌≤◌, true, leb, List, [], ◌∷◌, length, refl, ap, arith, ne_eqb, le-leb, leb-true}
use Rattle.byte_search.specs.Bytes.{index_after, index_of}
use Rattle.rules.specs.Numbers.{every}
use Rattle.rules.specs.Bytes.{digit0, is_digit, all_digits}
use Rattle.rules.proofs.Tests.{both, and-true, within-fact}

abbrev pub Least : ℕ → List ℕ → Type 0
Least n l = every (λ x. leb n x) l ≡ true

-- no byte below n stands among them
pub least-index : (n c : ℕ) (l : List ℕ) → c < n → Least n l → index_of c l ≡ length l
unfolding every index_of index_after
least-index n c [] h a = refl
least-index n c (x ∷ l) h a =
    let t = both (leb n x) (every (λ x. leb n x) l) a in
    let k = leb-true n x t.0 in
    rw (ne_eqb x c (λ e. omega (arith, k, e))) (ap suc (least-index n c l h t.1))

pub least-down : (n m : ℕ) (l : List ℕ) → n ≤ m → Least m l → Least n l
unfolding every
least-down n m [] h a = refl
least-down n m (x ∷ l) h a =
    let t = both (leb m x) (every (λ x. leb m x) l) a in
    let k = leb-true m x t.0 in
    and-true (le-leb n x (omega arith)) (least-down n m l h t.1)

pub least-one : (n x : ℕ) (l : List ℕ) → n ≤ x → Least n l → Least n (x ∷ l)
unfolding every
least-one n x l h a = and-true (le-leb n x h) a

pub digits-least : (l : List ℕ) → all_digits l ≡ true → Least 48 l
unfolding every all_digits
digits-least [] a = refl
digits-least (x ∷ l) a =
    let t = both (is_digit x) (all_digits l) a in
    let d = within-fact digit0 (digit0 + 9) x t.0 in
    and-true (le-leb 48 x d.0) (digits-least l t.1)
