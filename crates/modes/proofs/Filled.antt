-- A table that a loop stores place by place: what stands below place i is the table's first i, and at the end all of it is.
-- Assumes nothing.
use Prim.Native.Nat.{ℕ, ◌+◌, ◌≤◌, ◌<◌}
use mathlib.Core.Path.{◌≡◌, refl, sym, ap, ◌∙◌}
use mathlib.Core.List.{List}
use native.Mathlib.Omega.{arith}
use native.Mathlib.Numerals.{add-one}
use lib.ListN.{length, get_or, take, drop, set, length-set}
use lib.Seq.{take-suc-set, take_all, get_or-drop, drop-drop, drop-set-lt}
use Rattle.rules.specs.Numbers.{tab}

module _ {A : Type 0} (f : ℕ → A) (l : List A) (i : ℕ) (before : take i l ≡ tab i f) where
  -- one place more
  pub filled : (a : A) → i < length l → a ≡ f i → take (i + 1) (set l i a) ≡ tab (i + 1) f
  unfolding tab
  filled a h e = rw (add-one i, take-suc-set l i a h) (cc)

  pub whole : (n : ℕ) → length l ≡ n → i ≤ n → n ≤ i → l ≡ tab n f
  whole n h p q =
      let e : i ≡ n = omega arith in
      sym (take_all n l (omega arith)) ∙ (rw e at before)

-- ---- a list that a loop changes in place: the table's elements before place i, and the list's own from there on

pub record Filling {A : Type 0} (f : ℕ → A) (from : List A) (n i : ℕ) (out : List A) : Type 0 where
  pub range : i ≤ n
  pub size : length out ≡ n
  pub before : take i out ≡ tab i f
  pub rest : drop i out ≡ drop i from

pub filling-start : {A : Type 0} (f : ℕ → A) (from : List A) (n : ℕ) → length from ≡ n → Filling f from n 0 from
unfolding tab
filling-start f from n h = record { range = omega arith; size = h; before = refl; rest = refl }

module _ {A : Type 0} (f : ℕ → A) (from : List A) (n i : ℕ) (out : List A) (h : Filling f from n i out) where
  -- what stands at place i is still the list's own
  pub filling-at : (d : A) → get_or out i d ≡ get_or from i d
  filling-at d =
      let e : i + 0 ≡ i = omega arith in
      let own : (l : List A) → get_or (drop i l) 0 d ≡ get_or l i d = λ l. get_or-drop i l 0 d ∙ ap (λ (k : ℕ). get_or l k d) e in
      sym (own out) ∙ ap (λ (l : List A). get_or l 0 d) h.rest ∙ own from

  pub filling-more : i < n → (a : A) → a ≡ f i → Filling f from n (i + 1) (set out i a)
  filling-more l a e = record {
    range = omega arith;
    size = length-set out i a ∙ h.size;
    before = filled f out i h.before a (omega (arith, h.size)) e;
    rest = drop-set-lt (i + 1) out i a (omega arith) ∙ sym (drop-drop 1 i out) ∙ ap (drop 1) h.rest ∙ drop-drop 1 i from;
  }

  pub filling-whole : n ≤ i → out ≡ tab n f
  filling-whole l = whole f out i h.before n h.size h.range l
