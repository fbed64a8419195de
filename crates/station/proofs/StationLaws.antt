-- The station file as it arrives: the bytes held and those that follow, and a file that is too long. Assumes nothing.
use Rattle.std.specs.Prelude.{Ok, Err, Result}
use Rattle.std.specs.Result.{is_err}
use Prim.Native.Nat.{ℕ, ◌+◌, ◌≤◌, ◌<◌, min}
use mathlib.Core.Path.{◌≡◌, refl, sym, ap, ◌∙◌}
use mathlib.Core.Bool.{true}
use mathlib.Core.List.{List, [], ◌++◌, append_assoc}
use native.Mathlib.Omega.{arith}
use borrow.Author.Tests.{leb-true}
use lib.ListN.{length, take, length-append, length-take}
use Rattle.rules.specs.declared.station.Station.{Station}
use Rattle.rules.specs.Answers.{refused, result_of}
use Rattle.rules.specs.StationFile.{station_file}
use Rattle.station.specs.declared.chunks.StationBytes.{StationBytes}
use Rattle.station.specs.Stations.{station_with, too_long, is_refused}
use Rattle.rules.proofs.Tables.{take-least}
use Rattle.station.proofs.ContentsOrder.{too_long_lem}
use Rattle.rules.specs.declared.answers.Refusal.{Refusal}

-- "a file has 165 to 676 bytes": one with more is refused with 1, whatever its bytes are
over-most : (s : List ℕ) → 676 < length s → station_file s ≡ refused 1 0
unfolding station_file
over-most s h = rw (← too_long_lem s h)

-- ---- the bytes held, and those that are put behind them

module _ (bytes : List ℕ) (len held : ℕ) (size : length bytes ≡ 677) (least : held ≡ min len 677) where
  -- a count that is past the end counts to the end
  pub held-is : take held bytes ≡ take len bytes
  held-is = rw (least, ← size) (take-least len bytes)

  -- the chunk is put behind the bytes held
  pub all_held : (chunk whole rest : List ℕ) → take (held + length chunk) whole ≡ take held bytes ++ chunk
      → station_file (take len bytes ++ (chunk ++ rest)) ≡ station_file (take (held + length chunk) whole ++ rest)
  all_held chunk whole rest put =
      let is : take (held + length chunk) whole ≡ take len bytes ++ chunk = rw held-is at put in
      ap station_file (sym (append_assoc (take len bytes) chunk rest) ∙ ap (λ (s : List ℕ). s ++ rest) (sym is))

  -- more bytes than are held: both are refused for their length
  pub over-held : (chunk rest : List ℕ) → 677 < held + length chunk
      → station_file (take len bytes ++ (chunk ++ rest)) ≡ station_file (take 677 bytes ++ rest)
  over-held chunk rest h =
      let n : length (take len bytes ++ (chunk ++ rest)) ≡ held + (length chunk + length rest) = simp (length-append, length-take) (omega arith) in
      let m : length (take 677 bytes ++ rest) ≡ 677 + length rest = simp (length-append, length-take) (omega arith) in
      over-most _ (omega (arith, n)) ∙ sym (over-most _ (omega (arith, m)))

-- a file that is held up to one byte more than it may have is refused for its length, whatever follows
held-too-long : (bytes : List ℕ) (len : ℕ) (rest : List ℕ) → length bytes ≡ 677 → 677 ≤ len → station_file (take len bytes ++ []) ≡ station_file (take len bytes ++ rest)
held-too-long bytes len rest size h =
    let n : length (take len bytes ++ []) ≡ 677 = simp (length-append, length-take) (omega arith) in
    let m : length (take len bytes ++ rest) ≡ 677 + length rest = simp (length-append, length-take) (omega arith) in
    over-most _ (omega (arith, n)) ∙ sym (over-most _ (omega (arith, m)))

pub too-long-decides : (file : StationBytes) → length file.bytes ≡ 677 → too_long file ≡ true → (rest : List ℕ) → station_with file [] ≡ station_with file rest
unfolding station_with too_long
too-long-decides file size e rest = held-too-long file.bytes file.len rest size (leb-true 677 file.len e)

-- ---- what a function answers is an error where the answer is a refusal

pub refused-reading : (v : Result Station Refusal) → is_err v ≡ is_refused (result_of v)
refused-reading (Ok st) = refl
refused-reading (Err r) = refl
