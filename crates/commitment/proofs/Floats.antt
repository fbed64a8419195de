-- A whole number up to 2 ^ 53 is a double. Assumes nothing.
use Rattle.std.proofs.Common.{ℕ, ◌≤◌, T, pos, le→leb}
use lib.Ieee.{binary64, in_float}

pub whole : (n : ℕ) → n ≤ 9_007_199_254_740_992 → T (in_float binary64 (pos n))
unfolding in_float
whole n h = le→leb n 9_007_199_254_740_992 h
