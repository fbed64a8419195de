-- An array made by one call for each place is the table of what those calls give. Assumes nothing.
use Rattle.std.specs.Fn.{Called, Mut}
use Rattle.std.specs.Array.{IsFromFnResultFrom, IsFromFnResult}
use Prim.Native.Nat.{ℕ, zero, suc, ◌+◌, ◌≤◌, ◌<◌, zero-le}
use mathlib.Core.Path.{◌≡◌, sym, subst, ◌∙◌}
use mathlib.Core.List.{List}
use mathlib.Core.Logic.{◌⊎◌, inl, inr}
use native.Mathlib.Nat.{eq-or-lt_of_le}
use native.Mathlib.Omega.{arith}
use lib.ListN.{get_or}
use lib.Seq.{ext_get_or}
use Rattle.rules.specs.Numbers.{tab}
use Rattle.rules.proofs.Tables.{length-tab, tab-at}

-- each call at a place leaves the closure as it is, and gives what stands there in the table
module _ {F B : Type 0} (g : Mut F (ℕ × Unit {0}) B) (f : F) (n : ℕ) (h : ℕ → B) (gives : (i : ℕ) (y : B) (q : F) → i < n → Called g f (i, tt) y q → (q ≡ f) × (y ≡ h i)) (ys : List B) where
  made-from : (i m : ℕ) → i + m ≤ n → IsFromFnResultFrom g f ys i m → (k : ℕ) (d : B) → i ≤ k → k < i + m → get_or ys k d ≡ h k
  made-from i zero u r k d a b = absurd (omega arith)
  made-from i (suc m) u (q, y, stands, called, rest) k d a b =
      go (λ l. made-from (i + 1) m (omega arith) (subst (λ (p : F). IsFromFnResultFrom g p ys (i + 1) m) here.0 rest) k d (omega arith) (omega arith)) (eq-or-lt_of_le a)
    where
      here : (q ≡ f) × (y ≡ h i)
      here = gives i y q (omega arith) called

      go : (i < k → get_or ys k d ≡ h k) → (i ≡ k) ⊎ (i < k) → get_or ys k d ≡ h k
      go later (inl e) = subst (λ (j : ℕ). get_or ys j d ≡ h j) e (stands.1 d ∙ here.1)
      go later (inr l) = later l

  pub made : IsFromFnResult g f ys n → ys ≡ tab n h
  made r =
      ext_get_or (h 0) ys (tab n h) (r.long ∙ sym (length-tab h n)) (λ k l.
      let inside : k < n = omega (arith, r.long) in
      made-from 0 n (omega arith) r.each k (h 0) zero-le (omega arith) ∙ sym (tab-at h n k (h 0) inside))
