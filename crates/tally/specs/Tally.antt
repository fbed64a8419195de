-- The count and the checksum of the bytes of a pass over a file, byte by byte, in the 64 bits that hold them. The bytes are summed
-- as words of four, whose sum cannot lose a byte's place in its word; where the words stand is a matter of the file and not of its chunks.
use Rattle.std.specs.Prelude.{◌≡◌, ℕ, zero, suc, ◌+◌, ◌*◌, ◌%◌, Bool, ◌&&◌, List, [], ◌∷◌, ◌++◌, ◌==◌}
use Rattle.tally.specs.declared.Tally.{Tally}

-- 2^64
abbrev pub modulus : ℕ
modulus = 18446744073709551616

unfoldable pub no_bytes : Tally
no_bytes = record { count = 0; sum = 0; sums = 0 }

-- what a byte at this place of its word is worth
unfoldable pub worth : ℕ → ℕ → ℕ
worth zero byte = byte
worth (suc zero) byte = byte * 256
worth (suc (suc zero)) byte = byte * 65536
worth (suc (suc (suc _))) byte = byte * 16777216

-- the sum of the sums gains the sum at the end of each word
unfoldable pub at_word_end : ℕ → ℕ → ℕ
at_word_end zero sum = 0
at_word_end (suc zero) sum = 0
at_word_end (suc (suc zero)) sum = 0
at_word_end (suc (suc (suc _))) sum = sum

-- one byte more, at the place of the file that the count names
unfoldable pub with_byte : Tally → ℕ → Tally
with_byte t byte =
    let place = t.count % 4 in
    let sum = (t.sum + worth place byte) % modulus in
    record { count = (t.count + 1) % modulus; sum = sum; sums = (t.sums + at_word_end place sum) % modulus }

unfoldable pub tallied_of : Tally → List ℕ → Tally
tallied_of t [] = t
tallied_of t (byte ∷ rest) = tallied_of (with_byte t byte) rest

unfoldable pub same_tally : Tally → Tally → Bool
same_tally a b = a.count == b.count && a.sum == b.sum && a.sums == b.sums

-- the bytes of words, one after the other
abbrev pub bytes_of : List (List ℕ) → List ℕ
bytes_of [] = []
bytes_of (word ∷ rest) = word ++ bytes_of rest

-- where a word begins, these bytes, which are words, are tallied, and the next word begins
abbrev pub WordsTallied : Tally → List ℕ → Tally → Type 0
WordsTallied t s r = t.count % 4 ≡ 0 → (r ≡ tallied_of t s) × (r.count % 4 ≡ 0)
