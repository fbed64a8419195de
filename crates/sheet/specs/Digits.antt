-- Document 01, "The sample file": what a text comes to in code as a number, before its limit is asked.
use Rattle.std.specs.Prelude.{ℕ, Bool, true, false, Some, None, Option}

-- "1 to 9 digits", "1 to 6 digits, then nothing or a point and 1 to 3 digits": a text that has its form is a number, and no other is
abbrev pub formed : Bool → ℕ → Option ℕ
formed true v = Some v
formed false v = None
