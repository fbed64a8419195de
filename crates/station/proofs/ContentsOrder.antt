-- The checks of a file one after the other: size, table of contents, values. Assumes nothing.
use Rattle.std.specs.Prelude.{Ok, Err, Result}
use Prim.Native.Nat.{ℕ, ◌+◌, ◌*◌, ◌≤◌, ◌<◌}
use mathlib.Core.Path.{◌≡◌, sym, ap, ◌∙◌}
use mathlib.Core.Bool.{true, false}
use mathlib.Core.List.{List}
use native.Mathlib.Omega.{arith}
use lib.Dec.{eqb}
use lib.ListN.{length}
use borrow.Author.Tests.{lt-leb}
use Rattle.rules.specs.declared.answers.Refusal.{Refusal}
use Rattle.rules.specs.Numbers.{within}
use Rattle.rules.specs.Answers.{accepted, refused, refusal_of, result_of}
use Rattle.rules.specs.StationRecord.{values_right}
use Rattle.rules.proofs.Tests.{within-fact, fact-within, over-range}
use Rattle.rules.proofs.StationRead.{contents}
use Rattle.rules.specs.StationFile.{count_at, configs_offset, entry_right, record_of, contents_right, station_file}

module _ (s : List ℕ) where
  pub too_short : length s < 165 → refused 1 0 ≡ contents_right s
  unfolding contents_right
  too_short l = rw (lt-leb 165 (length s) l)

  pub too_long_lem : 676 < length s → refused 1 0 ≡ contents_right s
  unfolding contents_right
  too_long_lem l = rw (over-range 165 676 (length s) l)

  module _ (least : 165 ≤ length s) (most : length s ≤ 676) where
    size : within 165 676 (length s) ≡ true
    size = fact-within 165 676 (length s) least most

    pub entry-1 : entry_right s 0 1 1 1 32 ≡ false → refused 2 1 ≡ contents_right s
    unfolding contents_right
    entry-1 e = rw (size, e)

    module _ (first : entry_right s 0 1 1 1 32 ≡ true) where
      pub entry-2 : entry_right s 1 2 1 1 68 ≡ false → refused 2 2 ≡ contents_right s
      unfolding contents_right
      entry-2 e = rw (size, first, e)

      module _ (second : entry_right s 1 2 1 1 68 ≡ true) where
        pub entry-3 : entry_right s 2 3 1 8 100 ≡ false → refused 2 3 ≡ contents_right s
        unfolding contents_right
        entry-3 e = rw (size, first, second, e)

        module _ (third : entry_right s 2 3 1 8 100 ≡ true) where
          pub entry-4 : entry_right s 3 4 1 64 (configs_offset (count_at s 2)) ≡ false → refused 2 4 ≡ contents_right s
          unfolding contents_right
          entry-4 e = rw (size, first, second, third, e)

          module _ (fourth : entry_right s 3 4 1 64 (configs_offset (count_at s 2)) ≡ true) where
            pub size-last : eqb (length s) (configs_offset (count_at s 2) + count_at s 3) ≡ false → refused 3 0 ≡ contents_right s
            unfolding contents_right
            size-last e = rw (size, first, second, third, fourth, e)

            pub contents-in-order : eqb (length s) (configs_offset (count_at s 2) + count_at s 3) ≡ true → accepted tt ≡ contents_right s
            unfolding contents_right
            contents-in-order e = rw (size, first, second, third, fourth, e)

-- how long a file is by the counts that were read, a byte for each configuration
pub size-by-counts : (s : List ℕ) (sets configs : ℕ) → sets ≡ count_at s 2 → configs ≡ count_at s 3 → configs_offset sets + 1 * configs ≡ configs_offset (count_at s 2) + count_at s 3
size-by-counts s sets configs e f = let one : 1 * configs ≡ configs = omega arith in rw (one, e, f)

-- what the counts of a file in order are, and how long it is
pub contents-fit : (s : List ℕ) → contents_right s ≡ accepted tt
    → (count_at s 2 ≤ 8) × (count_at s 3 ≤ 64) × (165 ≤ length s) × (length s ≡ configs_offset (count_at s 2) + count_at s 3)
contents-fit s h =
    let c = contents s h in
    let n = within-fact 1 8 (count_at s 2) c.sets-in-range in
    let m = within-fact 1 64 (count_at s 3) c.configs-in-range in
    (n.1, m.1, omega (arith, n.0, m.0, c.size), c.size)

-- ---- the whole file: its contents, then its values

module _ (s : List ℕ) (v : Result (Unit {0}) Refusal) (contents-are : result_of v ≡ contents_right s) where
  pub contents-refused : (r : Refusal) → v ≡ Err r → refusal_of r ≡ station_file s
  unfolding station_file
  contents-refused r e = rw (← contents-are, e)

  pub contents-passed : v ≡ Ok tt → contents_right s ≡ accepted tt
  contents-passed e = sym contents-are ∙ ap result_of e

  module _ (passed : v ≡ (Ok tt)) (w : Result (Unit {0}) Refusal) (values-are : result_of w ≡ values_right (record_of s)) where
    pub values-refused : (r : Refusal) → w ≡ Err r → refusal_of r ≡ station_file s
    unfolding station_file
    values-refused r e = rw (contents-passed passed, ← values-are, e)

    pub file-read : w ≡ Ok tt → accepted (record_of s) ≡ station_file s
    unfolding station_file
    file-read e = rw (contents-passed passed, ← values-are, e)
