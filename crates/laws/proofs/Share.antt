-- Document 01, step 6: the shares of a mask's sets sum to the diesel, each is "within one watt of its proportion", and a set
-- that the mask has not takes nothing. Assumes nothing.
use Prim.Native.Nat.{ℕ, zero, suc, ◌+◌, ◌-◌, ◌*◌, ◌/◌, ◌≤◌, ◌<◌}
use mathlib.Core.Path.{◌≡◌, refl, sym, ◌∙◌}
use mathlib.Core.Bool.{Bool, true, false}
use mathlib.Core.List.{List}
use native.Mathlib.Omega.{arith}
use native.Mathlib.Decide.{dec_lt}
use native.Mathlib.Nat.{le_trans, zero-mul, mul-zero, mul-add, mul_comm, mul-sub, mul-le-mul_left, zero-div, mul-div_cancel, div-mul-le_self, lt-div-mul-add, mul-div-le, le-div_iff_mul-le, mul-le-mul_right, div-zero, add-mul-div_right}
use Rattle.rules.specs.declared.station.GenSet.{GenSet}
use Rattle.rules.specs.Numbers.{has, sum_to}
use Rattle.rules.specs.StationRecord.{set_at}
use Rattle.rules.specs.Share.{running_total, capacity, share}

-- the part that r of c takes of d, which is at most c
part-most : (d t r c : ℕ) → d ≤ c → d * (t + r) / c - d * t / c ≤ r
part-most d t r zero h = rw (div-zero (d * (t + r)), div-zero (d * t)) (omega arith)
part-most d t r (suc c) h =
    let more : d * (t + r) ≤ d * t + r * suc c = rw mul-add (omega (arith, mul-le-mul_right r h, mul_comm (suc c) r)) in
    let some : 0 < suc c = omega arith in
    let s : d * (t + r) / suc c ≤ (d * t + r * suc c) / suc c = (le-div_iff_mul-le some).1 (le_trans (div-mul-le_self (d * (t + r)) (suc c)) more) in
    let e : (d * t + r * suc c) / suc c ≡ d * t / suc c + r = add-mul-div_right (d * t) r some in
    omega arith

module _ (sets : List GenSet) (mask : ℕ) where
  -- the running total after one more place
  total-rises : (i : ℕ) → running_total sets mask i ≤ running_total sets mask (suc i)
  unfolding running_total sum_to
  total-rises i = omega arith

  pub total-has : (i : ℕ) → has mask i ≡ true → running_total sets mask (suc i) ≡ running_total sets mask i + (set_at sets i).rating
  unfolding running_total sum_to
  total-has i h = rw h

  total-not : (i : ℕ) → has mask i ≡ false → running_total sets mask (suc i) ≡ running_total sets mask i
  unfolding running_total sum_to
  total-not i h = rw h (omega arith)

  module _ (diesel : ℕ) where
    -- what the sets before a place take together
    taken : ℕ → ℕ
    taken i = diesel * running_total sets mask i / capacity sets mask

    taken-rises : 0 < capacity sets mask → (i : ℕ) → taken i ≤ taken (suc i)
    unfolding taken
    taken-rises some i =
        (le-div_iff_mul-le some).1 (le_trans (div-mul-le_self (diesel * running_total sets mask i) (capacity sets mask)) (mul-le-mul_left diesel (total-rises i)))

    taken-together : 0 < capacity sets mask → (n : ℕ) → sum_to n (share sets mask diesel) ≡ taken n
    unfolding sum_to share taken running_total
    taken-together some zero = rw (mul-zero, zero-div)
    taken-together some (suc n) = omega (arith, taken-together some n, taken-rises some n)

    -- "Sharing diesel by rounding each set alone, so shares miss the total": these do not
    pub shares_sum : 0 < capacity sets mask → sum_to 8 (share sets mask diesel) ≡ diesel
    unfolding taken capacity
    shares_sum some = taken-together some 8 ∙ mul-div_cancel diesel some

    -- where there is no set there is no diesel to share
    none-shared : diesel ≡ 0 → (n : ℕ) → sum_to n (share sets mask diesel) ≡ 0
    unfolding sum_to share
    none-shared e zero = refl
    none-shared e (suc n) =
        let here : share sets mask diesel n ≡ 0 = rw (e, zero-mul (running_total sets mask (suc n)), zero-mul (running_total sets mask n)) (omega arith) in
        omega (arith, here, none-shared e n)

    pub all-shared : diesel ≤ capacity sets mask → sum_to 8 (share sets mask diesel) ≡ diesel
    all-shared h = go (dec_lt 0 (capacity sets mask))
      where
        go : Dec (0 < capacity sets mask) → sum_to 8 (share sets mask diesel) ≡ diesel
        go (yes some) = shares_sum some
        go (no none) = let e : diesel ≡ 0 = omega (arith, none) in none-shared e 8 ∙ sym e

    pub share-outside : (i : ℕ) → has mask i ≡ false → share sets mask diesel i ≡ 0
    unfolding share
    share-outside i h = rw (total-not i h) (omega arith)

    -- its proportion is diesel x rating / cap
    pub share-near : 0 < capacity sets mask → (i : ℕ) → has mask i ≡ true
        → (share sets mask diesel i * capacity sets mask < diesel * (set_at sets i).rating + capacity sets mask)
        × (diesel * (set_at sets i).rating < share sets mask diesel i * capacity sets mask + capacity sets mask)
    unfolding share taken
    share-near some i h =
        let cap : ℕ = capacity sets mask in
        let q : ℕ = taken i in
        let r : ℕ = taken (suc i) in
        let more : diesel * running_total sets mask (suc i) ≡ diesel * running_total sets mask i + diesel * (set_at sets i).rating = rw (total-has i h, mul-add) in
        let part : (r - q) * cap ≡ cap * r - cap * q = mul_comm (r - q) cap ∙ mul-sub cap r q in
        let low : cap * q ≤ diesel * running_total sets mask i = mul-div-le (diesel * running_total sets mask i) cap in
        let low' : cap * r ≤ diesel * running_total sets mask (suc i) = mul-div-le (diesel * running_total sets mask (suc i)) cap in
        let high : diesel * running_total sets mask i < q * cap + cap = lt-div-mul-add some in
        let high' : diesel * running_total sets mask (suc i) < r * cap + cap = lt-div-mul-add some in
        omega (arith, more, part, low, low', high, high', mul_comm q cap, mul_comm r cap)

    -- no set takes more than its rating of what the capacity allows
    pub share-most : diesel ≤ capacity sets mask → (i : ℕ) → share sets mask diesel i ≤ (set_at sets i).rating
    unfolding share
    share-most h i = go (has mask i) refl
      where
        go : (b : Bool) → has mask i ≡ b → share sets mask diesel i ≤ (set_at sets i).rating
        go true e = rw (total-has i e) (part-most diesel (running_total sets mask i) (set_at sets i).rating (capacity sets mask) h)
        go false e = rw (share-outside i e) (omega arith)
