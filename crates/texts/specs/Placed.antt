-- Document 01, "bytes past the row stay": a text in a lent buffer, from a place on, and the bytes before and past it.
use Rattle.std.specs.Prelude.{ℕ, ◌+◌, ◌≡◌, List, [], ◌++◌, leb, length, take, drop, if◌then◌else◌}

-- the text stands from `at` on, and the bytes before and past it stay
abbrev pub placed : List ℕ → ℕ → List ℕ → List ℕ
placed lent at text = take at lent ++ (text ++ drop (length text) (drop at lent))

-- the text, where so many bytes have room from `at` on, and else nothing
unfoldable pub roomy : ℕ → List ℕ → ℕ → List ℕ → List ℕ
roomy most text at lent = if leb (at + most) (length lent) then text else []

-- What a text that is put into a buffer from a place on, where so many bytes have room, owes: where it ends, and the buffer as it is left.
abbrev pub PutAt : ℕ → List ℕ → ℕ → List ℕ → ℕ → List ℕ → Type 0
PutAt most text at lent told left = (told ≡ at + length (roomy most text at lent)) × (left ≡ placed lent at (roomy most text at lent))

-- ---- on the way to it

-- the text stands at the buffer's front, its length is told, and the lent bytes past it stay
abbrev pub Front : List ℕ → List ℕ → ℕ → List ℕ → Type 0
Front lent text told left = (told ≡ length text) × (left ≡ text ++ drop (length text) lent)
