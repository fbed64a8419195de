-- A text that grows at the front of a buffer. Assumes nothing.
use Prim.Native.Nat.{ℕ, ◌+◌, ◌-◌, ◌≤◌, ◌<◌, min}
use mathlib.Core.Path.{◌≡◌, refl, sym, ap, ◌∙◌}
use mathlib.Core.List.{List, [], ◌∷◌, ◌++◌, append_assoc, append-nil}
use native.Mathlib.Omega.{arith}
use native.Mathlib.Numerals.{add-one}
use lib.ListN.{length, take, drop, set, length-append, length-take, length-drop, drop_of_length-le, take-append-drop}
use lib.Seq.{drop-drop, take_at, drop_at, take_all, set_at, drop-cons}
use borrow.Rule.Slice.PartMut.{put_mid}
use Rattle.texts.specs.Placed.{Front, placed}

-- what stands after a text, once a byte more is stored
pub stored : (d l : List ℕ) (x : ℕ) → length d < length l → set (d ++ drop (length d) l) (length d) x ≡ (d ++ (x ∷ [])) ++ drop (length d + 1) l
stored d l x h = rw (drop-cons l (length d) 0 h, set_at d _ _ x (length d) refl, append_assoc, add-one)

-- a text placed in a buffer is the bytes before it with it, and the buffer from there on
module _ (l : List ℕ) (at : ℕ) (h : at ≤ length l) where
  length_front : (t : List ℕ) → length (take at l ++ t) ≡ at + length t
  length_front t = length-append (take at l) t ∙ (let e : length (take at l) ≡ at = length-take at l ∙ (let m : min at (length l) ≡ at = omega arith in m) in rw e)

  placed-front : (t : List ℕ) → placed l at t ≡ (take at l ++ t) ++ drop (length (take at l ++ t)) l
  placed-front t = rw (length_front t, append_assoc, ← drop-drop)

  -- a byte stored after it
  pub byte-after : (t : List ℕ) (b : ℕ) → at + length t < length l → set (placed l at t) (at + length t) b ≡ placed l at (t ++ (b ∷ []))
  byte-after t b k =
      let d : List ℕ = take at l ++ t in
      let f : length d ≡ at + length t = length_front t in
      let e : length (d ++ (b ∷ [])) ≡ length d + 1 = length-append d (b ∷ []) in
      rw (placed-front t, placed-front (t ++ (b ∷ [])))
      (ap (λ (n : ℕ). set (d ++ drop (length d) l) n b) (sym f) ∙ stored d l b (omega arith)
      ∙ ap (λ (n : ℕ). (d ++ (b ∷ [])) ++ drop n l) (sym e)
      ∙ ap (λ (x : List ℕ). x ++ drop (length x) l) (append_assoc (take at l) t (b ∷ [])))

-- the text at the front goes on
pub goes_on : (l a t b b' : List ℕ) (at at' : ℕ) → Front l a at b → at' ≡ at + length t → b' ≡ placed b at t → Front l (a ++ t) at' b'
goes_on l a t b b' at at' f e q =
    let x : take at b ≡ a = rw f.1 (take_at a (drop (length a) l) at (sym f.0)) in
    let y : drop at b ≡ drop (length a) l = rw f.1 (drop_at a (drop (length a) l) at (sym f.0)) in
    (omega (arith, f.0, length-append a t), q ∙ rw (x, y, length-append a t, append_assoc, ← drop-drop))

-- and is no longer than the buffer
pub front_fits : (l t b : List ℕ) (k : ℕ) → Front l t k b → k ≤ length b
front_fits l t b k f = omega (arith, f.0, ap length f.1 ∙ length-append t (drop (length t) l))

-- ---- bytes stored one after the other

module _ (l : List ℕ) (at : ℕ) where
  byte_at : (a : ℕ) → at < length l → set l at a ≡ placed l at (a ∷ [])
  byte_at a h =
      let none : at + length {A = ℕ} [] ≡ at = omega arith in
      ap (λ (m : List ℕ). set m at a) (sym (take-append-drop at l)) ∙ ap (λ (k : ℕ). set (placed l at []) k a) (sym none) ∙ byte-after l at (omega arith) [] a (omega arith)

  pub two_bytes : (a b : ℕ) → at + 2 ≤ length l → set (set l at a) (at + 1) b ≡ placed l at (a ∷ b ∷ [])
  two_bytes a b h = ap (λ (m : List ℕ). set m (at + 1) b) (byte_at a (omega arith)) ∙ byte-after l at (omega arith) (a ∷ []) b (omega arith)

  pub four_bytes : (a b c d : ℕ) → at + 4 ≤ length l → set (set (set (set l at a) (at + 1) b) (at + 2) c) (at + 3) d ≡ placed l at (a ∷ b ∷ c ∷ d ∷ [])
  four_bytes a b c d h =
      ap (λ (m : List ℕ). set (set m (at + 2) c) (at + 3) d) (two_bytes a b (omega arith))
      ∙ ap (λ (m : List ℕ). set m (at + 3) d) (byte-after l at (omega arith) (a ∷ b ∷ []) c (omega arith))
      ∙ byte-after l at (omega arith) (a ∷ b ∷ c ∷ []) d (omega arith)

-- ---- a text from a place of the buffer on

-- nothing is written yet
pub from-here : (l : List ℕ) (at : ℕ) → at ≤ length l → Front l (take at l ++ []) at l
from-here l at h =
    let e : length (take at l) ≡ at = length-take at l ∙ (let m : min at (length l) ≡ at = omega arith in m) in
    rw (append-nil, e) (refl, sym (take-append-drop at l))

-- the bytes before it and it stand at the front
pub stands : (l t b : List ℕ) (at end : ℕ) → at ≤ length l → Front l (take at l ++ t) end b → (end ≡ at + length t) × (b ≡ placed l at t)
stands l t b at end h f = (f.0 ∙ length_front l at h t, f.1 ∙ sym (placed-front l at h t))

-- a text that is copied over the bytes there
pub copied : (l t new : List ℕ) (at : ℕ) → new ≡ t → put_mid at (at + length t - at) l new ≡ placed l at t
copied l t new at same =
    let k : at + length t - at ≡ length t = omega arith in
    rw (k, same)

-- one text after another
pub placed_on : (l t u : List ℕ) (at k : ℕ) → at + length t ≤ length l → k ≡ at + length t → placed (placed l at t) k u ≡ placed l at (t ++ u)
placed_on l t u at k h e =
    let f : Front l (take at l ++ t) k (placed l at t) = (e ∙ sym (length_front l at (omega arith) t), placed-front l at (omega arith) t) in
    let g = goes_on l (take at l ++ t) u (placed l at t) (placed (placed l at t) k u) k (k + length u) f refl refl in
    (stands l (t ++ u) (placed (placed l at t) k u) at (k + length u) (omega arith) (rw (append_assoc (take at l) t u) at g)).1

-- and so of buffers that two calls leave
pub both-placed : (l t u w b b' : List ℕ) (at k : ℕ) → at + length t ≤ length l → k ≡ at + length t → b ≡ placed l at t → b' ≡ placed b k u → w ≡ t ++ u → b' ≡ placed l at w
both-placed l t u w b b' at k h e first second whole = second ∙ rw (first, whole) (placed_on l t u at k h e)

-- ---- the tail of a buffer that was lent and has come back

pub tail-is : (l : List ℕ) (k : ℕ) → take (length l - k) (drop k l) ≡ drop k l
tail-is l k = take_all (length l - k) (drop k l) (omega (arith, length-drop k l))

pub tail-back : (l : List ℕ) (at : ℕ) (ys d : List ℕ) → ys ≡ d ++ drop (length d) (take (length l - at) (drop at l))
    → take at l ++ (ys ++ drop (length l - at) (drop at l)) ≡ placed l at d
tail-back l at ys d e =
    let h : length (drop at l) ≤ length l - at = omega (arith, length-drop at l) in
    rw (e, tail-is, drop_of_length-le (drop at l) h, append-nil)

-- and a byte after what was written there
pub tail-ended : (l : List ℕ) (at k b : ℕ) (ys d : List ℕ) → at + length d < length l → Front (take (length l - at) (drop at l)) d k ys
    → set (take at l ++ (ys ++ drop (length l - at) (drop at l))) (at + k) b ≡ placed l at (d ++ (b ∷ []))
tail-ended l at k b ys d h f = rw (tail-back l at ys d f.1, f.0) (byte-after l at (omega arith) d b h)
