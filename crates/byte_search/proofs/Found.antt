-- What `memchr` answers, as the place of the first byte. Assumes nothing.
use Rattle.std.proofs.Common.{◌≡◌, ℕ, zero, suc, ◌+◌, ◌-◌, ◌≤◌, ◌<◌, Bool, true, false, ◌==◌, List, [], ◌∷◌, length, take, drop, refl, sym, ap, ◌∙◌, arith, min}
use Rattle.std.proofs.lemmas.List.{drop-take, drop_all, take_min, length-take}
use Rattle.memchr.specs.Find.{is_byte, Passes, Nowhere}
use Rattle.byte_search.specs.Bytes.{index_after, index_of, slice}

-- no byte before place k is c, and it is the byte at place k
index-found : (c : ℕ) (s : List ℕ) (k : ℕ) → k < length s → Nowhere (Passes (is_byte c) s) 0 k → Passes (is_byte c) s k → index_of c s ≡ k
unfolding index_of
index-found c [] k h none here = absurd (omega arith)
index-found c (x ∷ s) zero h none here = rw here
index-found c (x ∷ s) (suc k) h none here = go (x == c) (none 0 (omega arith) (omega arith)) (index-found c s k (omega arith) (λ j low high at. none (suc j) (omega arith) (omega arith) at) here)
  where
    go : (b : Bool) → ¬ (b ≡ true) → index_of c s ≡ k → index_after b (index_of c s) ≡ suc k
    go true other e = absurd (other refl)
    go false other e = ap suc e

-- c is nowhere
index-none : (c : ℕ) (s : List ℕ) → Nowhere (Passes (is_byte c) s) 0 (length s) → index_of c s ≡ length s
unfolding index_of
index-none c [] none = refl
index-none c (x ∷ s) none = go (x == c) (none 0 (omega arith) (omega arith)) (index-none c s (λ j low high at. none (suc j) (omega arith) (omega arith) at))
  where
    go : (b : Bool) → ¬ (b ≡ true) → index_of c s ≡ length s → index_after b (index_of c s) ≡ suc (length s)
    go true other e = absurd (other refl)
    go false other e = ap suc e

-- the part of a text that the code reads, which ends no later than the text
module _ (from to end : ℕ) (s : List ℕ) (is : end ≡ min to (length s)) where
  whole : take to s ≡ take end s
  whole = sym (rw (← is) at (take_min to s))

  -- "An empty part"
  pub slice-empty : (c : ℕ) → end ≤ from → index_of c (slice from to s) ≡ 0
  unfolding slice index_of
  slice-empty c low = rw (drop_all from (take to s) (simp length-take (omega arith)))

  abbrev part : List ℕ
  part = take (end - from) (drop from s)

  slice-part : from < end → slice from to s ≡ part
  unfolding slice
  slice-part order =
      let e : from + (end - from) ≡ end = omega arith in
      ap (drop from) whole ∙ ap (λ (n : ℕ). drop from (take n s)) (sym e) ∙ drop-take from (end - from) s

  pub slice-found : (c k : ℕ) → from < end → k < length part → Nowhere (Passes (is_byte c) part) 0 k → Passes (is_byte c) part k → index_of c (slice from to s) ≡ k
  slice-found c k order h none here = rw (slice-part order) (index-found c part k h none here)

  pub slice-none : (c : ℕ) → from < end → Nowhere (Passes (is_byte c) part) 0 (length part) → index_of c (slice from to s) ≡ length part
  slice-none c order none = rw (slice-part order) (index-none c part none)
