-- Numbers of a file: read through a part, and one after the other. Assumes nothing.
use Prim.Native.Nat.{ℕ, zero, suc, ◌+◌, ◌-◌, ◌*◌, ◌^◌, ◌≤◌, ◌<◌, min}
use mathlib.Core.Path.{◌≡◌, refl, sym, ap, ◌∙◌}
use mathlib.Core.List.{List, [], ◌∷◌, ◌++◌}
use native.Mathlib.Omega.{arith}
use native.Mathlib.Nat.{not-suc-le-zero}
use native.Mathlib.Numerals.{add-one}
use lib.ListN.{length, take, drop, get_or, set, replicate, length-take, length-drop}
use lib.Seq.{drop-drop, set_at, append_snoc}
use Rattle.std.proofs.lemmas.List.{drop-replicate}
use Rattle.rules.specs.Bytes.{little, littles}
use Rattle.rules.specs.declared.station.GenSet.{GenSet}
use Rattle.rules.specs.StationFile.{set_of, sets_of}
use Rattle.words.proofs.LittleLaws.{little-part, little-turn}

-- the number of a part that is as long as the number is wide
pub part-number : (s : List ℕ) (at width number : ℕ) → at + width ≤ length s → width ≤ 8
    → number ≡ little 8 (take (at + width - at) (drop at s)) → number < 256 ^ min 8 (length (take (at + width - at) (drop at s)))
    → (number ≡ little width (drop at s)) × (number < 256 ^ width)
part-number s at width number fits w e l =
    let k : at + width - at ≡ width = omega arith in
    let n : min 8 (length (take width (drop at s))) ≡ width = omega (arith, length-take width (drop at s), length-drop at s, fits, w) in
    ((rw k at e) ∙ little-part width 8 (drop at s) w, rw (k, n) at l)

-- a number of one byte more: the byte, and the number from the next byte on
one_more : (k at : ℕ) (s : List ℕ) → at < length s → little (suc k) (drop at s) ≡ get_or s at 0 + 256 * little k (drop (at + 1) s)
one_more k at s h = let e : at + 1 ≡ suc at = omega arith in rw e (little-turn k at s h)

-- a number of 4 bytes, from one place
pub four_bytes : (s : List ℕ) (at : ℕ) → at + 4 ≤ length s
    → little 4 (drop at s) ≡ get_or s at 0 + 256 * (get_or s (at + 1) 0 + 256 * (get_or s (at + 2) 0 + 256 * get_or s (at + 3) 0))
unfolding little
four_bytes s at h =
    let z : little 0 (drop (at + 4) s) ≡ 0 = refl in
    omega (arith, one_more 3 at s (omega arith), next 2 1 (omega arith), next 1 2 (omega arith), next 0 3 (omega arith), z)
  where
    next : (k j : ℕ) → at + j < length s → little (suc k) (drop (at + j) s) ≡ get_or s (at + j) 0 + 256 * little k (drop (at + (j + 1)) s)
    next k j l = let e : at + j + 1 ≡ at + (j + 1) = omega arith in rw e at (one_more k (at + j) s l)

-- a number of 8 bytes, from one place
pub eight_bytes : (s : List ℕ) (at : ℕ) → at + 8 ≤ length s
    → little 8 (drop at s) ≡ get_or s at 0 + 256 * (get_or s (at + 1) 0 + 256 * (get_or s (at + 2) 0 + 256 * (get_or s (at + 3) 0 + 256 * (get_or s (at + 4) 0 + 256 * (get_or s (at + 5) 0 + 256 * (get_or s (at + 6) 0 + 256 * get_or s (at + 7) 0))))))
unfolding little
eight_bytes s at h =
    let z : little 0 (drop (at + 8) s) ≡ 0 = refl in
    omega (arith, one_more 7 at s (omega arith), next 6 1 (omega arith), next 5 2 (omega arith), next 4 3 (omega arith), next 3 4 (omega arith), next 2 5 (omega arith), next 1 6 (omega arith), next 0 7 (omega arith), z)
  where
    next : (k j : ℕ) → at + j < length s → little (suc k) (drop (at + j) s) ≡ get_or s (at + j) 0 + 256 * little k (drop (at + (j + 1)) s)
    next k j l = let e : at + j + 1 ≡ at + (j + 1) = omega arith in rw e at (one_more k (at + j) s l)

-- the number at place j of numbers one after the other
littles-at : (width count j : ℕ) (s : List ℕ) → j < count → get_or (littles width count s) j 0 ≡ little width (drop (width * j) s)
unfolding littles
littles-at width zero j s h = absurd (not-suc-le-zero h)
littles-at width (suc count) zero s h = let e : width * 0 ≡ 0 = omega arith in rw e
littles-at width (suc count) (suc j) s h =
    let e : width + width * j ≡ width * suc j = omega arith in
    littles-at width count j (drop width s) (omega arith) ∙ ap (little width) (drop-drop (width * j) width s) ∙ ap (λ (n : ℕ). little width (drop n s)) e

-- a number that is read at its own place is the one at place j of the body that starts at `body`
pub number_in : (width count j body : ℕ) (s : List ℕ) → j < count → little width (drop (body + width * j) s) ≡ get_or (littles width count (drop body s)) j 0
number_in width count j body s h = sym (littles-at width count j (drop body s) h ∙ ap (little width) (drop-drop (width * j) body s))

-- the loads of the five pairs of a set, or their rates, which stand 4 bytes after the loads
pub pairs-in : (k offset body : ℕ) (s : List ℕ) → k < 2 → offset ≡ 4 * k
    → let ns = littles 4 16 (drop body s) in
    little 4 (drop (body + 24 + offset) s) ∷ little 4 (drop (body + 24 + 8 + offset) s) ∷ little 4 (drop (body + 24 + 16 + offset) s) ∷ little 4 (drop (body + 24 + 24 + offset) s) ∷ little 4 (drop (body + 24 + 32 + offset) s) ∷ []
    ≡ get_or ns (k + 6) 0 ∷ get_or ns (k + 8) 0 ∷ get_or ns (k + 10) 0 ∷ get_or ns (k + 12) 0 ∷ get_or ns (k + 14) 0 ∷ []
pairs-in k offset body s h o = λ i. one (body + 24 + offset) 6 (omega arith) (omega arith) i ∷ one (body + 24 + 8 + offset) 8 (omega arith) (omega arith) i ∷ one (body + 24 + 16 + offset) 10 (omega arith) (omega arith) i ∷ one (body + 24 + 24 + offset) 12 (omega arith) (omega arith) i ∷ one (body + 24 + 32 + offset) 14 (omega arith) (omega arith) i ∷ []
  where
    one : (at j : ℕ) → at ≡ body + 4 * (k + j) → j ≤ 14 → little 4 (drop at s) ≡ get_or (littles 4 16 (drop body s)) (k + j) 0
    one at j e l = rw e (number_in 4 16 (k + j) body s (omega arith))

-- ---- a row of elements in an array whose rest is filled, one more a turn

pub row-turn : {A : Type 0} (row next : List A) (v z : A) (i m : ℕ) → length row ≡ i → i < m → next ≡ row ++ (v ∷ [])
    → set (row ++ replicate (m - i) z) i v ≡ next ++ replicate (m - (i + 1)) z
row-turn row next v z i m l h e =
    let k : m - i ≡ suc (m - (i + 1)) = omega arith in
    rw (k, e) (set_at row z (replicate (m - (i + 1)) z) v i l ∙ sym (append_snoc row v (replicate (m - (i + 1)) z)))

pub sets_more : (n : ℕ) (s : List ℕ) → sets_of (n + 1) s ≡ sets_of n s ++ (set_of (littles 4 16 (drop (64 * n) s)) ∷ [])
unfolding sets_of
sets_more zero s = refl
sets_more (suc n) s =
    let e : 64 + 64 * n ≡ 64 * suc n = omega arith in
    rw add-one
    (ap (λ (l : List GenSet). set_of (littles 4 16 s) ∷ l)
    (rw add-one at (sets_more n (drop 64 s)) ∙ ap (λ (l : List ℕ). sets_of n (drop 64 s) ++ (set_of (littles 4 16 l) ∷ [])) (drop-drop (64 * n) 64 s ∙ ap (λ (k : ℕ). drop k s) e)))

-- a number of one byte is the byte
pub byte_at : (s : List ℕ) (at : ℕ) → at < length s → get_or s at 0 ≡ little 1 (drop at s)
unfolding little
byte_at s at h = sym (little-turn 0 at s h ∙ (let e : get_or s at 0 + 256 * 0 ≡ get_or s at 0 = omega arith in e))

-- numbers of one byte are the bytes
littles-one : (n : ℕ) (s : List ℕ) → n ≤ length s → littles 1 n s ≡ take n s
unfolding littles
littles-one zero s h = refl
littles-one (suc n) [] h = absurd (omega arith)
littles-one (suc n) (x ∷ s) h =
    let first : little 1 (x ∷ s) ≡ x = sym (byte_at (x ∷ s) 0 (omega arith)) in
    rw (first, littles-one n s (omega arith))

-- bytes that are copied to the front of an array of zeros
pub littles-copied : (new s : List ℕ) (at n : ℕ) → n ≤ 64 → at + n ≤ length s → new ≡ take (at + 1 * n - at) (drop at s)
    → new ++ drop n (replicate 64 0) ≡ littles 1 n (drop at s) ++ replicate (64 - n) 0
littles-copied new s at n most fits copied =
    let k : at + 1 * n - at ≡ n = omega arith in
    let room : n ≤ length (drop at s) = simp length-drop (omega arith) in
    let front : new ≡ littles 1 n (drop at s) = (rw k at copied) ∙ sym (littles-one n (drop at s) room) in
    rw (front, drop-replicate)
