-- A test asked of each place below n is the definition's test of them all. Assumes nothing.
use Rattle.std.specs.Bool.{MatchBool}
use Rattle.std.specs.List.{range_with_len, AllWithin, HoldsAt}
use Rattle.std.proofs.lemmas.List.FromFn.{length-range_with_len, get_or-range_with_len}
use Prim.Native.Nat.{ℕ, ◌+◌, ◌<◌, zero-le}
use mathlib.Core.Path.{◌≡◌, sym, refl, subst, ◌∙◌}
use mathlib.Core.Bool.{Bool, true, false}
use native.Mathlib.Omega.{arith}
use lib.ListN.{length, get_or}
use Rattle.rules.specs.Numbers.{all_to}
use Rattle.rules.proofs.Tests.{never, to_at, to-all}

module _ (p : ℕ → Bool) (n : ℕ) where
  at : (i : ℕ) → i < n → get_or (range_with_len 0 n) i 0 ≡ i
  at i l = let e : get_or (range_with_len 0 n) i 0 ≡ 0 + i = get_or-range_with_len 0 n i 0 l in omega arith

  pub all-places : (r : Bool)
      → MatchBool r (AllWithin (λ k. p k ≡ true) (range_with_len 0 n) 0 (length (range_with_len 0 n))) ((k : ℕ) × (k < length (range_with_len 0 n)) × HoldsAt (λ k. p k ≡ false) (range_with_len 0 n) k)
      → r ≡ all_to n p
  all-places true h = sym (to-all p n (λ i l. subst (λ (k : ℕ). p k ≡ true) (at i l) (h i 0 zero-le (omega (arith, length-range_with_len 0 n)))))
  all-places false (k, l, h) = go (all_to n p) refl
    where
      inside : k < n
      inside = omega (arith, length-range_with_len 0 n)

      here : p k ≡ false
      here = subst (λ (i : ℕ). p i ≡ false) (at k inside) (h 0)

      go : (b : Bool) → all_to n p ≡ b → false ≡ b
      go true e = never (sym here ∙ to_at p n e k inside)
      go false e = refl
