-- A buffer with bytes put into a part of it: its length, what stands in the part and outside it, and that it is bytes. Assumes nothing.
use Prim.Native.Nat.{ℕ, zero, suc, ◌+◌, ◌-◌, ◌≤◌}
use mathlib.Core.Path.{◌≡◌, sym, ap, ◌∙◌}
use mathlib.Core.List.{List, [], ◌∷◌, ◌++◌}
use native.Mathlib.Omega.{arith}
use lib.ListN.{length, take, drop, length-append, length-drop, take-append-drop}
use lib.Seq.{length-take-le, take-append_seam, drop-append_seam, drop-drop}
use Rattle.rules.specs.Bytes.{AreBytes}

-- ---- bytes

pub take-bytes : (n : ℕ) (l : List ℕ) → AreBytes l → AreBytes (take n l)
take-bytes zero l h = tt
take-bytes (suc n) [] h = tt
take-bytes (suc n) (b ∷ l) h = (h.0, take-bytes n l h.1)

pub drop-bytes : (n : ℕ) (l : List ℕ) → AreBytes l → AreBytes (drop n l)
drop-bytes zero l h = h
drop-bytes (suc n) [] h = tt
drop-bytes (suc n) (b ∷ l) h = drop-bytes n l h.1

pub append-bytes : (l m : List ℕ) → AreBytes l → AreBytes m → AreBytes (l ++ m)
append-bytes [] m h k = k
append-bytes (b ∷ l) m h k = (h.0, append-bytes l m h.1 k)

-- ---- the part in front of a seam and the part behind it

take-front : (n : ℕ) (l m : List ℕ) → length l ≡ n → take n (l ++ m) ≡ l
take-front n l m e = ap (λ (k : ℕ). take k (l ++ m)) (sym e) ∙ take-append_seam l m

drop-front : (n : ℕ) (l m : List ℕ) → length l ≡ n → drop n (l ++ m) ≡ m
drop-front n l m e = ap (λ (k : ℕ). drop k (l ++ m)) (sym e) ∙ drop-append_seam l m

-- ---- n bytes put into a buffer from a place on, all of them within it

abbrev pub put : ℕ → ℕ → List ℕ → List ℕ → List ℕ
put from n bytes before = take from before ++ (take n bytes ++ drop (from + n) before)

module _ (from n : ℕ) (bytes before : List ℕ) (there : n ≤ length bytes) (room : from + n ≤ length before) where
  ahead-size : length (take from before) ≡ from
  ahead-size = length-take-le from before (omega (arith, room))

  part-size : length (take n bytes) ≡ n
  part-size = length-take-le n bytes there

  pub put-size : length (put from n bytes before) ≡ length before
  put-size =
      let a = length-append (take from before) (take n bytes ++ drop (from + n) before) in
      let b = length-append (take n bytes) (drop (from + n) before) in
      let c = length-drop (from + n) before in
      omega (arith, a, b, c, ahead-size, part-size, room)

  pub put-ahead : take from (put from n bytes before) ≡ take from before
  put-ahead = take-front from (take from before) (take n bytes ++ drop (from + n) before) ahead-size

  at_part : drop from (put from n bytes before) ≡ take n bytes ++ drop (from + n) before
  at_part = drop-front from (take from before) (take n bytes ++ drop (from + n) before) ahead-size

  pub put-part : take n (drop from (put from n bytes before)) ≡ take n bytes
  put-part = ap (take n) at_part ∙ take-front n (take n bytes) (drop (from + n) before) part-size

  past-part : drop (from + n) (put from n bytes before) ≡ drop (from + n) before
  past-part = sym (drop-drop n from (put from n bytes before)) ∙ ap (drop n) at_part ∙ drop-front n (take n bytes) (drop (from + n) before) part-size

  pub put-behind : (to : ℕ) → from + n ≤ to → drop to (put from n bytes before) ≡ drop to before
  put-behind to h =
      let e : from + n + (to - (from + n)) ≡ to = omega (arith, h) in
      let split : (l : List ℕ) → drop (to - (from + n)) (drop (from + n) l) ≡ drop to l = λ l. drop-drop (to - (from + n)) (from + n) l ∙ ap (λ (k : ℕ). drop k l) e in
      sym (split (put from n bytes before)) ∙ ap (drop (to - (from + n))) past-part ∙ split before

  pub put-bytes : AreBytes bytes → AreBytes before → AreBytes (put from n bytes before)
  put-bytes b h = append-bytes (take from before) (take n bytes ++ drop (from + n) before) (take-bytes from before h) (append-bytes (take n bytes) (drop (from + n) before) (take-bytes n bytes b) (drop-bytes (from + n) before h))

-- what was there is what was put, and then the rest
pub part-then-rest : (n : ℕ) (bytes part : List ℕ) → part ≡ take n bytes → bytes ≡ part ++ drop n bytes
part-then-rest n bytes part e = sym (take-append-drop n bytes) ∙ ap (λ (l : List ℕ). l ++ drop n bytes) (sym e)

-- the first bytes, as the library's `get` has them
pub first-bytes : (n : ℕ) (bytes part : List ℕ) → part ≡ take (n - 0) (drop 0 bytes) → part ≡ take n bytes
first-bytes n bytes part e = let same : n - 0 ≡ n = omega arith in e ∙ ap (λ (k : ℕ). take k bytes) same
