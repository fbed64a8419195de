-- Bytes: texts, little-endian numbers, decimal numbers, and the parts of a text between two bytes of a kind.
use Rattle.std.specs.Prelude.{ℕ, zero, suc, ◌+◌, ◌-◌, ◌*◌, ◌/◌, ◌%◌, ◌^◌, ◌<◌, Bool, true, false, ◌&&◌, List, [], ◌∷◌, ◌++◌, length, drop, ltb, eqb, if◌then◌else◌}
use Prim.Native.Char.{code}
use Prim.Native.String as S
use Rattle.rules.specs.Numbers.{within}

-- the bytes that the formats name
abbrev pub LF : ℕ
LF = 10

abbrev pub CR : ℕ
CR = 13

abbrev pub comma : ℕ
comma = 44

abbrev pub point : ℕ
point = 46

-- the digit 0; the others follow it
abbrev pub digit0 : ℕ
digit0 = 48

-- the bytes of a text, all of whose characters are ASCII
unfoldable pub bytes : S.String → List ℕ
bytes S.[] = []
bytes (S.◌∷◌ c s) = code c ∷ bytes s

-- the same bytes
unfoldable pub same : List ℕ → List ℕ → Bool
same [] [] = true
same [] (y ∷ ys) = false
same (x ∷ xs) [] = false
same (x ∷ xs) (y ∷ ys) = eqb x y && same xs ys

-- ---- what can be a file's bytes, and what a slice of bytes can hold

abbrev pub AreBytes : List ℕ → Type 0
AreBytes [] = Unit {0}
AreBytes (b ∷ bs) = (b < 256) × AreBytes bs

-- a slice takes fewer than 2^63
pub record SliceHeld (bs : List ℕ) : Type 0 where
  pub few : length bs < 2 ^ 63
  pub are : AreBytes bs

-- ---- "Little-endian."

-- the number in the first `width` bytes; a byte that is not there counts 0
unfoldable pub little : ℕ → List ℕ → ℕ
little zero s = 0
little (suc width) [] = 0
little (suc width) (x ∷ s) = x + 256 * little width s

-- the first n numbers of `width` bytes each, one after the other
unfoldable pub littles : ℕ → ℕ → List ℕ → List ℕ
littles width zero s = []
littles width (suc n) s = little width s ∷ littles width n (drop width s)

-- the `width` bytes of a number
unfoldable pub bytes_of : ℕ → ℕ → List ℕ
bytes_of zero x = []
bytes_of (suc width) x = x % 256 ∷ bytes_of width (x / 256)

-- the bytes of numbers, `width` bytes each
unfoldable pub bytes_of_all : ℕ → List ℕ → List ℕ
bytes_of_all width [] = []
bytes_of_all width (x ∷ xs) = bytes_of width x ++ bytes_of_all width xs

-- ---- decimal numbers

-- the digits of n, of which there are at most room + 1: those of n / 10, then the last
unfoldable pub digits_in : ℕ → ℕ → List ℕ
digits_in zero n = (digit0 + n) ∷ []
digits_in (suc room) n =
    let more : List ℕ = digits_in room (n / 10) ++ ((digit0 + n % 10) ∷ []) in
    if ltb n 10 then (digit0 + n) ∷ [] else more

unfoldable pub decimal : ℕ → List ℕ
decimal n = digits_in n n

-- decimal numbers with a comma between each two, and LF after the last
unfoldable pub comma_line : List ℕ → List ℕ
comma_line [] = LF ∷ []
comma_line (x ∷ []) = decimal x ++ (LF ∷ [])
comma_line (x ∷ y ∷ r) = decimal x ++ (comma ∷ comma_line (y ∷ r))

abbrev pub is_digit : ℕ → Bool
is_digit x = within digit0 (digit0 + 9) x

unfoldable pub all_digits : List ℕ → Bool
all_digits [] = true
all_digits (x ∷ xs) = is_digit x && all_digits xs

-- "1 to n digits"
unfoldable pub digits : ℕ → List ℕ → Bool
digits n s = within 1 n (length s) && all_digits s

-- the number whose first digits have the value v and whose others are s
unfoldable pub value_from : ℕ → List ℕ → ℕ
value_from v [] = v
value_from v (x ∷ s) = value_from (v * 10 + (x - digit0)) s

abbrev pub value : List ℕ → ℕ
value s = value_from 0 s

-- ---- parts

-- a byte in front of the first part
abbrev pub in_front : ℕ → List (List ℕ) → List (List ℕ)
in_front x [] = (x ∷ []) ∷ []
in_front x (p ∷ ps) = (x ∷ p) ∷ ps

-- the parts between the bytes c: one more than there are such bytes
unfoldable pub parts : ℕ → List ℕ → List (List ℕ)
parts c [] = [] ∷ []
parts c (x ∷ s) = let rest = parts c s in if eqb x c then [] ∷ rest else in_front x rest
