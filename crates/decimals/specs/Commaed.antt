-- Document 01, a row's numbers with a comma between each two: a number and the byte after it, numbers that go on, and a whole line.
use Rattle.std.specs.Prelude.{ℕ, zero, suc, ◌+◌, ◌*◌, ◌/◌, ◌%◌, List, [], ◌∷◌, ◌++◌, length}
use Rattle.rules.specs.Bytes.{comma, digit0, decimal, comma_line}

-- a number and the byte after it
unfoldable pub ended : ℕ → ℕ → List ℕ
ended number after = decimal number ++ (after ∷ [])

-- numbers, each with a comma after it
unfoldable pub commaed : List ℕ → List ℕ
commaed [] = []
commaed (x ∷ xs) = ended x comma ++ commaed xs

-- the line of numbers; no numbers have no line
unfoldable pub line_of : List ℕ → List ℕ
line_of [] = []
line_of (x ∷ xs) = comma_line (x ∷ xs)

-- what any so many numbers of 64 bits take: 20 digits and the byte after them for each
abbrev pub most_bytes : List ℕ → ℕ
most_bytes numbers = 21 * length numbers

-- ---- on the way to it

-- the last `width` digits of a number, with zeros in front where it has fewer
unfoldable pub last_digits : ℕ → ℕ → List ℕ
last_digits zero n = []
last_digits (suc width) n = last_digits width (n / 10) ++ ((digit0 + n % 10) ∷ [])
