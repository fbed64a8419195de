-- The end of a line from a place on: LF, or CR and LF. Assumes nothing.
use Rattle.std.proofs.Common.{◌≡◌, ℕ, suc, ◌+◌, ◌<◌, ◌≤◌, true, ◌&&◌, eqb, leb, List, [], ◌∷◌, ◌++◌, length, get_or, drop, sym, refl, ap, ◌∙◌, append-nil, add-one, arith, drop-cons, eq-eqb, ne_eqb, eqb-true, leb-true}
use Rattle.rules.specs.Numbers.{every}
use Rattle.rules.specs.Bytes.{LF, CR}
use Rattle.rules.specs.Lines.{without_cr}
use Rattle.rules.proofs.Tests.{both, and-true}
use Rattle.usual_rows.specs.Usual.{EndTaken}
use Rattle.usual_rows.proofs.Least.{Least, least-one}

least-crless : (l : List ℕ) → Least 44 l → without_cr l ≡ l
unfolding without_cr every
least-crless [] a = refl
least-crless (x ∷ []) a = let k = leb-true 44 x (both (leb 44 x) true a).0 in rw (ne_eqb x CR (λ e. omega (arith, k, e)))
least-crless (x ∷ y ∷ r) a = ap (λ (l : List ℕ). x ∷ l) (least-crless (y ∷ r) (both (leb 44 x) (every (λ x. leb 44 x) (y ∷ r)) a).1)

cr-last : (l : List ℕ) → without_cr (l ++ (CR ∷ [])) ≡ l
unfolding without_cr
cr-last [] = refl
cr-last (x ∷ []) = ap (λ (l : List ℕ). x ∷ l) (cr-last [])
cr-last (x ∷ y ∷ r) = ap (λ (l : List ℕ). x ∷ l) (cr-last (y ∷ r))

module _ (s : List ℕ) (at next : ℕ) (e : EndTaken s at next) where
  -- "one CR just before it is dropped"
  pub end-dropped : (l : List ℕ) → Least 44 l → without_cr (l ++ e.dropped) ≡ l
  unfolding every
  end-dropped l a = go e.dropped e.few e.all
    where
      go : (d : List ℕ) → length d ≤ 1 → every (λ x. eqb x CR) d ≡ true → without_cr (l ++ d) ≡ l
      go [] h t = ap without_cr (append-nil l) ∙ least-crless l a
      go (x ∷ []) h t = ap (λ (y : ℕ). without_cr (l ++ (y ∷ []))) (eqb-true x CR (both (eqb x CR) true t).0) ∙ cr-last l
      go (x ∷ y ∷ d) h t = absurd (omega (arith, h))

  pub end-least : Least 11 e.dropped
  unfolding every
  end-least = go e.dropped e.all
    where
      go : (d : List ℕ) → every (λ x. eqb x CR) d ≡ true → Least 11 d
      go [] t = refl
      go (x ∷ d) t =
          let u = both (eqb x CR) (every (λ x. eqb x CR) d) t in
          let k : x ≡ CR = eqb-true x CR u.0 in
          least-one 11 x d (omega (arith, k)) (go d u.1)

-- a byte at a place
at_place : (s : List ℕ) (at x : ℕ) → at < length s → get_or s at 0 ≡ x → drop at s ≡ x ∷ drop (at + 1) s
at_place s at x h is = drop-cons s at 0 h ∙ ap (λ (y : ℕ). y ∷ drop (suc at) s) is ∙ ap (λ (n : ℕ). x ∷ drop n s) (sym (add-one at))

module _ (s : List ℕ) (at : ℕ) (room : at + 2 ≤ length s) where
  pub lf-taken : get_or s at 0 ≡ LF → EndTaken s at (at + 1)
  unfolding every
  lf-taken is = record { dropped = []; few = omega arith; all = refl; part = record { is = at_place s at LF (omega (arith, room)) is; size = omega arith } }

  pub cr-lf-taken : eqb (get_or s at 0) CR && eqb (get_or s (at + 1) 0) LF ≡ true → EndTaken s at (at + 1 + 1)
  unfolding every
  cr-lf-taken e =
      let t = both (eqb (get_or s at 0) CR) (eqb (get_or s (at + 1) 0) LF) e in
      let first = at_place s at CR (omega (arith, room)) (eqb-true (get_or s at 0) CR t.0) in
      let second = at_place s (at + 1) LF (omega (arith, room)) (eqb-true (get_or s (at + 1) 0) LF t.1) in
      record {
        dropped = CR ∷ [];
        few = omega arith;
        all = and-true (eq-eqb CR CR refl) refl;
        part = record { is = first ∙ ap (λ (l : List ℕ). CR ∷ l) second; size = omega arith };
      }
