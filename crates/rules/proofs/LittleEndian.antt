-- Little-endian numbers: what is written is read back. Assumes nothing.
use Prim.Native.Nat.{ℕ, zero, suc, ◌*◌, ◌/◌, ◌^◌, ◌<◌}
use mathlib.Core.Path.{◌≡◌, refl, sym, ap}
use mathlib.Core.List.{List, [], ◌∷◌, ◌++◌, append_assoc}
use native.Mathlib.Omega.{arith}
use native.Mathlib.Nat.{pow-suc, mod-add-div, div-lt_iff_lt-mul, mul-suc, mul-zero}
use lib.ListN.{length, length-append}
use lib.Seq.{drop_at}
use Rattle.rules.specs.Bytes.{little, littles, bytes_of, bytes_of_all}

-- every number of a list is below n
abbrev pub AllBelow : ℕ → List ℕ → Type 0
AllBelow n [] = Unit {0}
AllBelow n (x ∷ xs) = (x < n) × AllBelow n xs

pub length-bytes : (width x : ℕ) → length (bytes_of width x) ≡ width
unfolding bytes_of
length-bytes zero x = refl
length-bytes (suc width) x = ap suc (length-bytes width (x / 256))

pub length-all : (width : ℕ) (xs : List ℕ) → length (bytes_of_all width xs) ≡ width * length xs
unfolding bytes_of_all
length-all width [] = sym (mul-zero width)
length-all width (x ∷ xs) =
    rw (length-append (bytes_of width x) (bytes_of_all width xs), length-bytes width x, length-all width xs, mul-suc) (omega arith)

-- a number of `width` bytes
pub reads-back : (width x : ℕ) (rest : List ℕ) → x < 256 ^ width → little width (bytes_of width x ++ rest) ≡ x
unfolding little bytes_of
reads-back zero x rest h = let k : x < 1 = h in omega arith
reads-back (suc width) x rest h =
    let k : x / 256 < 256 ^ width = (div-lt_iff_lt-mul {k = 256} (omega arith)).1 (rw pow-suc at h) in
    rw (reads-back width (x / 256) rest k) (mod-add-div x 256)

-- numbers of `width` bytes each, one after the other
pub read-back-all : (width : ℕ) (xs rest : List ℕ) → AllBelow (256 ^ width) xs → littles width (length xs) (bytes_of_all width xs ++ rest) ≡ xs
unfolding littles bytes_of_all
read-back-all width [] rest h = refl
read-back-all width (x ∷ xs) rest h =
    rw
    (append_assoc (bytes_of width x) (bytes_of_all width xs) rest, reads-back width x (bytes_of_all width xs ++ rest) h.0, drop_at (bytes_of width x) (bytes_of_all width xs ++ rest) width (length-bytes width x), read-back-all width xs rest h.1)
