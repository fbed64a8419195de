-- A part of a buffer that was read into: the bytes that came lie within it, and the buffer outside it is as it was. Assumes nothing.
use Prim.Native.Nat.{ℕ, ◌+◌, ◌-◌, ◌≤◌, ◌<◌, min}
use native.Mathlib.Decide.{dec_le}
use native.Mathlib.Omega.{arith}
use mathlib.Core.Path.{◌≡◌, refl, sym, ◌∙◌, ap}
use mathlib.Core.List.{List}
use lib.ListN.{length, drop, drop_of_length-le}
use borrow.Rule.Slice.PartMut.{put_mid, same_len_mid, mid_len, take_put, drop_put}
use Rattle.exchange.specs.declared.event.Event.{Event}
use Rattle.exchange.specs.World.{Outside}
use Rattle.perform.specs.Shape.{ShapedRead}

-- for whoever is told that bytes came
pub read-within : (e : Event) (n from to : ℕ) (buf : List ℕ) → e ≡ Event.Read n → ShapedRead e from to buf → (0 < n) × (from + n ≤ length buf)
read-within e n from to buf is shaped = within n from to (length buf) (rw is at shaped)
  where
    within : (n from to size : ℕ) → (0 < n) × (from + n ≤ min to size) → (0 < n) × (from + n ≤ size)
    within n from to size h = (h.0, omega (arith, h.1))

pub outside : (from to end : ℕ) (before ys : List ℕ) → end ≡ min to (length before) → from < end → length ys ≡ end - from → Outside from to before (put_mid from (end - from) before ys)
outside from to end before ys is less count = record { size = size; ahead = take_put from (end - from) before ys (within from end to (length before) is less); behind = behind (dec_le to (length before)) }
  where
    within : (from end to n : ℕ) → end ≡ min to n → from < end → from ≤ n
    within from end to n h g = omega arith

    ending : (end to n : ℕ) → end ≡ min to n → end ≤ n
    ending end to n h = omega arith

    whole : (end to n : ℕ) → end ≡ min to n → to ≤ n → to ≡ end
    whole end to n h g = omega arith

    ahead_of : (from end : ℕ) → from < end → from ≤ end
    ahead_of from end h = omega arith

    past : (to n m : ℕ) → ((to ≤ n) → ⊥) → m ≡ n → m ≤ to
    past to n m h g = omega arith

    size : length (put_mid from (end - from) before ys) ≡ length before
    size = same_len_mid from (end - from) before ys (count ∙ sym (mid_len from end before (ending end to (length before) is)))

    behind : Dec (to ≤ length before) → drop to (put_mid from (end - from) before ys) ≡ drop to before
    behind (yes h) = ap (λ (n : ℕ). drop n (put_mid from (end - from) before ys)) (whole end to (length before) is h) ∙ drop_put from end before ys (ahead_of from end less) (ending end to (length before) is) count ∙ sym (ap (λ (n : ℕ). drop n before) (whole end to (length before) is h))
    behind (no h) = drop_of_length-le (put_mid from (end - from) before ys) (past to (length before) (length (put_mid from (end - from) before ys)) h size) ∙ sym (drop_of_length-le before (past to (length before) (length before) h refl))
