-- A number's digits, cut into those in front and the last few; and how the code puts one part after the other. Assumes nothing.
use Prim.Native.Nat.{ℕ, zero, suc, ◌+◌, ◌*◌, ◌/◌, ◌%◌, ◌^◌, ◌≤◌, ◌<◌}
use mathlib.Core.Path.{◌≡◌, refl, sym, ap, ◌∙◌}
use mathlib.Core.List.{List, [], ◌∷◌, ◌++◌, append_assoc, append-nil}
use native.Mathlib.Nat.{pow-suc, mul_assoc, mul_comm, div-div-eq-div-mul, mod-add-div'}
use native.Mathlib.Omega.{arith}
use lib.ListN.{length, length-append}
use Rattle.rules.specs.Bytes.{decimal}
use Rattle.rules.proofs.Decimals.{decimal-one, decimal-more}
use Rattle.decimals.specs.Commaed.{last_digits}
use Rattle.texts.specs.Placed.{Front, placed}
use Rattle.texts.proofs.Texts.{goes_on}

pub length_last : (k n : ℕ) → length (last_digits k n) ≡ k
unfolding last_digits
length_last zero n = refl
length_last (suc k) n = omega (arith, length-append (last_digits k (n / 10)) ((48 + n % 10) ∷ []), length_last k (n / 10))

pow-least : (k : ℕ) → 1 ≤ 10 ^ k
pow-least zero = omega arith
pow-least (suc k) = let h = pow-least k in rw pow-suc (omega arith)

-- what stands above the last digits does not change them
above : (k n q : ℕ) → last_digits k (n + q * 10 ^ k) ≡ last_digits k n
unfolding last_digits
above zero n q = refl
above (suc k) n q =
    let x : ℕ = q * 10 ^ k in
    let e : n + q * 10 ^ suc k ≡ n + x * 10 = ap (λ (p : ℕ). n + q * p) (pow-suc 10 k) ∙ ap (λ (p : ℕ). n + p) (sym (mul_assoc q (10 ^ k) 10)) in
    let d : (n + x * 10) / 10 ≡ n / 10 + x = omega arith in
    let m : (n + x * 10) % 10 ≡ n % 10 = omega arith in
    rw (e, d, m) (ap (λ (t : List ℕ). t ++ ((48 + n % 10) ∷ [])) (above k (n / 10) q))

pub last_rest : (k n : ℕ) → last_digits k (n % 10 ^ k) ≡ last_digits k n
last_rest k n = sym (above k (n % 10 ^ k) (n / 10 ^ k)) ∙ ap (last_digits k) (mod-add-div' n (10 ^ k))

-- the digits in front, and the last ones
front-last : (k n : ℕ) → 10 ^ k ≤ n → decimal n ≡ decimal (n / 10 ^ k) ++ last_digits k n
unfolding last_digits
front-last zero n h = let e : n / 1 ≡ n = omega arith in ap decimal (sym e) ∙ sym (append-nil (decimal (n / 1)))
front-last (suc k) n h =
    let p : 10 ^ k * 10 ≤ n = rw pow-suc at h in
    let e : n / 10 / 10 ^ k ≡ n / 10 ^ suc k = div-div-eq-div-mul n 10 (10 ^ k) ∙ ap (λ (m : ℕ). n / m) (mul_comm 10 (10 ^ k) ∙ sym (pow-suc 10 k)) in
    let last : List ℕ = (48 + n % 10) ∷ [] in
    decimal-more n (omega (arith, pow-least k))
    ∙ ap (λ (t : List ℕ). t ++ last) (front-last k (n / 10) (omega arith))
    ∙ append_assoc (decimal (n / 10 / 10 ^ k)) (last_digits k (n / 10)) last
    ∙ ap (λ (m : ℕ). decimal m ++ last_digits (suc k) n) e

pub decimal-last : (k n : ℕ) → 10 ^ k ≤ n → decimal n ≡ decimal (n / 10 ^ k) ++ last_digits k (n % 10 ^ k)
decimal-last k n h = front-last k n h ∙ ap (λ (t : List ℕ). decimal (n / 10 ^ k) ++ t) (sym (last_rest k n))

pub length-front-last : (k n : ℕ) → 10 ^ k ≤ n → length (decimal n) ≡ length (decimal (n / 10 ^ k)) + k
length-front-last k n h = ap length (front-last k n h) ∙ length-append (decimal (n / 10 ^ k)) (last_digits k n) ∙ ap (λ (m : ℕ). length (decimal (n / 10 ^ k)) + m) (length_last k n)

-- ---- numbers that have just so many digits

pub two_digits : (n : ℕ) → 10 ≤ n → n < 100 → decimal n ≡ last_digits 2 n
unfolding last_digits
two_digits n h k =
    let e : n / 10 % 10 ≡ n / 10 = omega arith in
    rw e (decimal-more n h ∙ ap (λ (t : List ℕ). t ++ ((48 + n % 10) ∷ [])) (decimal-one (n / 10) (omega arith)))

pub four-digits : (n : ℕ) → 1000 ≤ n → n < 10000 → decimal n ≡ last_digits 4 n
unfolding last_digits
four-digits n h k =
    let e : n / 100 / 10 % 10 ≡ n / 10 / 10 / 10 % 10 = omega arith in
    let f : n / 100 % 10 ≡ n / 10 / 10 % 10 = omega arith in
    front-last 2 n (omega arith) ∙ ap (λ (t : List ℕ). t ++ last_digits 2 n) (two_digits (n / 100) (omega arith) (omega arith)) ∙ rw (e, f)

pub eight-digits : (n : ℕ) → last_digits 8 n ≡ last_digits 4 (n / 10000) ++ last_digits 4 (n % 10000)
unfolding last_digits
eight-digits n =
    let e : n / 10 / 10 / 10 / 10 ≡ n / 10000 = omega arith in
    ap (λ (m : ℕ). last_digits 4 m ++ last_digits 4 n) e ∙ ap (λ (t : List ℕ). last_digits 4 (n / 10000) ++ t) (sym (last_rest 4 n))

-- ---- as the code puts them

-- the last digits after those in front
pub joined : (k n : ℕ) (l b b' : List ℕ) (d told : ℕ) → 10 ^ k ≤ n → told ≡ d + k → Front l (decimal (n / 10 ^ k)) d b
    → b' ≡ placed b d (last_digits k (n % 10 ^ k)) → Front l (decimal n) told b'
joined k n l b b' d told h e f q =
    let m : told ≡ d + length (last_digits k (n % 10 ^ k)) = rw (length_last k (n % 10 ^ k)) e in
    rw (decimal-last k n h) (goes_on l (decimal (n / 10 ^ k)) (last_digits k (n % 10 ^ k)) b b' d told f m q)

-- nothing in front of them
pub alone : (k n : ℕ) (l b : List ℕ) → decimal n ≡ last_digits k n → b ≡ placed l 0 (last_digits k n) → Front l (decimal n) k b
alone k n l b e q = rw e (goes_on l [] (last_digits k n) l b 0 k (refl, refl) (omega (arith, length_last k n)) q)

pub alone-length : (k n : ℕ) → decimal n ≡ last_digits k n → length (decimal n) ≡ k
alone-length k n e = ap length e ∙ length_last k n
