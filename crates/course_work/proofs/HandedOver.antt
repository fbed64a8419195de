-- The inputs of the seconds, one after the other in one slice, are those of the three slices. Assumes nothing.
use Prim.Native.Nat.{ℕ, zero, suc, ◌+◌, ◌*◌, ◌≤◌, ◌<◌}
use mathlib.Core.Path.{◌≡◌, refl, sym, ap, ◌∙◌}
use mathlib.Core.List.{List, [], ◌∷◌, ◌++◌, append_assoc}
use native.Mathlib.Omega.{arith}
use lib.ListN.{length, take, get_or, set, length-set, length-take}
use lib.Seq.{take-suc-set}
use Rattle.rules.specs.declared.run.Inputs.{Inputs}
use Rattle.rules.specs.Seconds.{inputs_each}
use Rattle.held_inputs.specs.Filling.{inputs_in}

-- ---- one second more, of the one slice and of the three

each_more : (i : ℕ) (l : List ℕ) (a b c : ℕ) → length l ≡ 3 * i → inputs_each (l ++ (a ∷ b ∷ c ∷ [])) ≡ inputs_each l ++ (record { load = a; solar = b; sheddable = c } ∷ [])
unfolding inputs_each
each_more zero [] a b c e = refl
each_more zero (x ∷ l) a b c e = absurd (omega (arith, e))
each_more (suc i) [] a b c e = absurd (omega (arith, e))
each_more (suc i) (x ∷ []) a b c e = absurd (omega (arith, e))
each_more (suc i) (x ∷ y ∷ []) a b c e = absurd (omega (arith, e))
each_more (suc i) (x ∷ y ∷ z ∷ l) a b c e = ap (λ (w : List Inputs). record { load = x; solar = y; sheddable = z } ∷ w) (each_more i l a b c (omega (arith, e)))

in-more : (i : ℕ) (loads solars sheddables : List ℕ) → i < length loads → i < length solars → i < length sheddables
    → inputs_in (suc i) loads solars sheddables ≡ inputs_in i loads solars sheddables ++ (record { load = get_or loads i 0; solar = get_or solars i 0; sheddable = get_or sheddables i 0 } ∷ [])
unfolding inputs_in
in-more i [] solars sheddables p q r = absurd (omega arith)
in-more i (x ∷ loads) [] sheddables p q r = absurd (omega arith)
in-more i (x ∷ loads) (y ∷ solars) [] p q r = absurd (omega arith)
in-more zero (x ∷ loads) (y ∷ solars) (z ∷ sheddables) p q r = refl
in-more (suc i) (x ∷ loads) (y ∷ solars) (z ∷ sheddables) p q r =
    ap (λ (w : List Inputs). record { load = x; solar = y; sheddable = z } ∷ w) (in-more i loads solars sheddables (omega arith) (omega arith) (omega arith))

-- ---- three numbers put one after the other

abbrev pub with_three : List ℕ → ℕ → ℕ → ℕ → ℕ → List ℕ
with_three l k a b c = set (set (set l k a) (k + 1) b) (k + 2) c

pub three-length : (l : List ℕ) (k a b c : ℕ) → length (with_three l k a b c) ≡ length l
three-length l k a b c = length-set (set (set l k a) (k + 1) b) (k + 2) c ∙ length-set (set l k a) (k + 1) b ∙ length-set l k a

three-more : (l : List ℕ) (k a b c : ℕ) → k + 3 ≤ length l → take (k + 3) (with_three l k a b c) ≡ take k l ++ (a ∷ b ∷ c ∷ [])
three-more l k a b c h =
    let one : List ℕ = set l k a in
    let two : List ℕ = set one (k + 1) b in
    let la = length-set l k a in
    let lb = length-set one (k + 1) b in
    let first : take (suc k) one ≡ take k l ++ (a ∷ []) = take-suc-set l k a (omega arith) in
    let second : take (suc (k + 1)) two ≡ take (k + 1) one ++ (b ∷ []) = take-suc-set one (k + 1) b (omega (arith, la)) in
    let third : take (suc (k + 2)) (set two (k + 2) c) ≡ take (k + 2) two ++ (c ∷ []) = take-suc-set two (k + 2) c (omega (arith, la, lb)) in
    let at1 : k + 1 ≡ suc k = omega arith in
    let at2 : k + 2 ≡ suc (k + 1) = omega arith in
    let at3 : k + 3 ≡ suc (k + 2) = omega arith in
    ap (λ (n : ℕ). take n (set two (k + 2) c)) at3 ∙ third
    ∙ ap (λ (w : List ℕ). w ++ (c ∷ [])) (ap (λ (n : ℕ). take n two) at2 ∙ second ∙ ap (λ (w : List ℕ). w ++ (b ∷ [])) (ap (λ (n : ℕ). take n one) at1 ∙ first))
    ∙ ap (λ (w : List ℕ). w ++ (c ∷ [])) (append_assoc (take k l) (a ∷ []) (b ∷ []))
    ∙ append_assoc (take k l) (a ∷ b ∷ []) (c ∷ [])

-- ---- the loop

module _ (loads solars sheddables : List ℕ) where
  -- so many seconds are handed over
  pub record Handing (count : ℕ) (inputs₀ inputs : List ℕ) (i : ℕ) : Type 0 where
    pub range : i ≤ count
    pub size : length inputs ≡ length inputs₀
    pub same : inputs_each (take (3 * i) inputs) ≡ inputs_in i loads solars sheddables

  pub handing-start : (count : ℕ) (inputs : List ℕ) → Handing count inputs inputs 0
  unfolding inputs_each inputs_in
  handing-start count inputs = record { range = omega arith; size = refl; same = refl }

  module _ (count : ℕ) (inputs₀ inputs : List ℕ) (i : ℕ) (g : Handing count inputs₀ inputs i) (short : i < count)
      (a : count ≤ length loads) (b : count ≤ length solars) (c : count ≤ length sheddables) (d : 3 * count ≤ length inputs₀) where
    pub handing-more : Handing count inputs₀ (with_three inputs (3 * i) (get_or loads i 0) (get_or solars i 0) (get_or sheddables i 0)) (i + 1)
    handing-more =
        let after : List ℕ = with_three inputs (3 * i) (get_or loads i 0) (get_or solars i 0) (get_or sheddables i 0) in
        let up : 3 * (i + 1) ≡ 3 * i + 3 = omega arith in
        let room : 3 * i + 3 ≤ length inputs = omega (arith, g.size, d, short) in
        let whole : length (take (3 * i) inputs) ≡ 3 * i = omega (arith, length-take (3 * i) inputs, room) in
        let next : i + 1 ≡ suc i = omega arith in
        record {
          range = omega (arith, short);
          size = three-length inputs (3 * i) (get_or loads i 0) (get_or solars i 0) (get_or sheddables i 0) ∙ g.size;
          same =
              ap (λ (n : ℕ). inputs_each (take n after)) up
              ∙ ap inputs_each (three-more inputs (3 * i) (get_or loads i 0) (get_or solars i 0) (get_or sheddables i 0) room)
              ∙ each_more i (take (3 * i) inputs) (get_or loads i 0) (get_or solars i 0) (get_or sheddables i 0) whole
              ∙ ap (λ (w : List Inputs). w ++ (record { load = get_or loads i 0; solar = get_or solars i 0; sheddable = get_or sheddables i 0 } ∷ [])) g.same
              ∙ sym (in-more i loads solars sheddables (omega (arith, a, short)) (omega (arith, b, short)) (omega (arith, c, short)))
              ∙ ap (λ (n : ℕ). inputs_in n loads solars sheddables) (sym next);
        }

  pub handing-over : (count : ℕ) (inputs₀ inputs : List ℕ) (i : ℕ) → Handing count inputs₀ inputs i → count ≤ i
      → (3 * i ≡ 3 * count) × (inputs_each (take (3 * count) inputs) ≡ inputs_in count loads solars sheddables)
  handing-over count inputs₀ inputs i g h =
      let e : i ≡ count = omega (arith, g.range, h) in
      (ap (λ (n : ℕ). 3 * n) e, ap (λ (n : ℕ). inputs_each (take (3 * n) inputs)) (sym e) ∙ g.same ∙ ap (λ (n : ℕ). inputs_in n loads solars sheddables) e)

pub in_three : (n count : ℕ) (inputs : List ℕ) (xs : List Inputs) → n ≡ 3 * count → inputs_each (take (3 * count) inputs) ≡ xs → inputs_each (take n inputs) ≡ xs
in_three n count inputs xs e h = ap (λ (k : ℕ). inputs_each (take k inputs)) e ∙ h
