-- Document 01, "Refusals", and the answer of a program that checks files: one line that is all that is printed.
use Rattle.std.specs.Prelude.{ℕ, List}
use Rattle.rules.specs.declared.answers.Refusal.{Refusal}
use Rattle.rules.specs.Answers.{number_and_place}
use Rattle.rules.specs.Bytes.{bytes}
use Rattle.rules.specs.Row.{refusal_line}

-- "a refusal prints only `refused,number,place`"
unfoldable pub refused_line : Refusal → List ℕ
refused_line r = refusal_line (number_and_place r).0 (number_and_place r).1

-- what a program prints whose whole answer is that its files are in order
unfoldable pub accepted_line : List ℕ
accepted_line = bytes "accepted\n"
