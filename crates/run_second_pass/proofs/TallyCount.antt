-- How many bytes a tally counted, of fewer than 2^64: so a second pass over the same bytes counts no more than the first. Assumes nothing.
use Prim.Native.Nat.{ℕ, suc, ◌+◌, ◌≤◌, ◌%◌}
use mathlib.Core.Path.{◌≡◌, ap}
use mathlib.Core.Bool.{true}
use mathlib.Core.List.{List, [], ◌∷◌, ◌++◌}
use native.Mathlib.Omega.{arith}
use borrow.Author.Tests.{eq-eqb}
use lib.ListN.{length, length-append}
use Rattle.rules.proofs.Tests.{and-true}
use Rattle.tally.specs.declared.Tally.{Tally}
use Rattle.tally.specs.Tally.{modulus, no_bytes, with_byte, tallied_of, same_tally}
use Rattle.sheet_stages.specs.ToCome.{most_place}

-- a count of fewer than 2^64 bytes does not wrap
one_more : (n m : ℕ) → n + suc m ≤ most_place → (n + 1) % modulus ≡ n + 1
one_more n m h = omega (arith, h)

-- the count grows by the bytes
pub count-is : (t : Tally) (xs : List ℕ) → t.count + length xs ≤ most_place → (tallied_of t xs).count ≡ t.count + length xs
unfolding tallied_of with_byte
count-is t [] h = omega arith
count-is t (byte ∷ rest) h =
    let one : (with_byte t byte).count ≡ t.count + 1 = one_more t.count (length rest) h in
    let more = count-is (with_byte t byte) rest (omega (arith, h, one)) in
    omega (arith, one, more)

-- all bytes of a file
pub count-all : (xs : List ℕ) → length xs ≤ most_place → (tallied_of no_bytes xs).count ≡ length xs
unfolding no_bytes
count-all xs h =
    let all = count-is no_bytes xs (omega (arith, h)) in
    omega (arith, all)

-- some of the bytes, and what is left of them
pub count-on : (t : Tally) (chunk left : List ℕ) (all : ℕ) → all ≤ most_place → t.count + length (chunk ++ left) ≡ all → (tallied_of t chunk).count + length left ≡ all
count-on t chunk left all few is =
    let size : length (chunk ++ left) ≡ length chunk + length left = length-append chunk left in
    let count = count-is t chunk (omega (arith, size, is, few)) in
    omega (arith, size, is, count)

-- a tally is the same as itself
pub same-is : (a b : Tally) → a ≡ b → same_tally a b ≡ true
unfolding same_tally
same-is a b e = and-true (and-true (eq-eqb a.count b.count (ap (λ (t : Tally). t.count) e)) (eq-eqb a.sum b.sum (ap (λ (t : Tally). t.sum) e))) (eq-eqb a.sums b.sums (ap (λ (t : Tally). t.sums) e))
