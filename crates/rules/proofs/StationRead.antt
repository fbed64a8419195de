-- What the reader of a station file gives is a record that passes the checks of 25, in its shape. Assumes nothing.
use Prim.Native.Nat.{ℕ, zero, suc, ◌+◌, ◌-◌}
use mathlib.Core.Path.{◌≡◌, refl, sym, ap, ◌∙◌}
use mathlib.Core.Bool.{true, ◌&&◌}
use mathlib.Core.List.{List, ◌++◌}
use native.Mathlib.Omega.{arith}
use lib.Dec.{eqb}
use lib.ListN.{length, drop, replicate, length-append, length-replicate}
use lib.Seq.{drop_at}
use borrow.Author.Tests.{eqb-true}
use Rattle.rules.specs.declared.station.GenSet.{GenSet}
use Rattle.rules.specs.declared.station.Station.{Station}
use Rattle.rules.specs.Numbers.{within, every, all_zero}
use Rattle.rules.specs.Bytes.{littles}
use Rattle.rules.specs.Answers.{accepted, is_accepted, ◌>>◌}
use Rattle.rules.specs.StationRecord.{no_set, values_right, set_unused, some_file_gives}
use Rattle.rules.specs.StationFile.{kind_at, count_at, offset_at, configs_offset, entry_right, sets_of, record_of, contents_right, station_file}
use Rattle.rules.proofs.Tests.{both, and-true, within-fact}
use Rattle.rules.proofs.Checks.{passed, last-passed, both-passed, same-value}
use Rattle.rules.proofs.Shapes.{ShapedSets, Shaped}

pub length-littles : (width n : ℕ) (s : List ℕ) → length (littles width n s) ≡ n
unfolding littles
length-littles width zero s = refl
length-littles width (suc n) s = ap suc (length-littles width n (drop width s))

pub length-sets_of : (n : ℕ) (s : List ℕ) → length (sets_of n s) ≡ n
unfolding sets_of
length-sets_of zero s = refl
length-sets_of (suc n) s = ap suc (length-sets_of n (drop 64 s))

shaped-filled : (n : ℕ) (s : List ℕ) (k : ℕ) → ShapedSets (sets_of n s ++ replicate k no_set)
unfolding sets_of no_set
shaped-filled zero s zero = tt
shaped-filled zero s (suc k) = (refl, refl, shaped-filled zero s k)
shaped-filled (suc n) s k = (refl, refl, shaped-filled n (drop 64 s) k)

unused-filled : (k : ℕ) → every set_unused (replicate k no_set) ≡ true
unfolding every no_set
unused-filled zero = refl
unused-filled (suc k) = unused-filled k

zero-filled : (k : ℕ) → all_zero (replicate k 0) ≡ true
unfolding every
zero-filled zero = refl
zero-filled (suc k) = zero-filled k

-- an entry in order has a count in its range
pub entry-count : (s : List ℕ) (i kind least most offset : ℕ) → entry_right s i kind least most offset ≡ true → within least most (count_at s i) ≡ true
unfolding entry_right
entry-count s i kind least most offset h =
    (both (eqb (kind_at s i) kind) (within least most (count_at s i)) (both (eqb (kind_at s i) kind && within least most (count_at s i)) (eqb (offset_at s i) offset) h).0).1

-- what a table of contents in order says
pub record Contents (s : List ℕ) : Type 0 where
  pub sets-in-range : within 1 8 (count_at s 2) ≡ true
  pub configs-in-range : within 1 64 (count_at s 3) ≡ true
  pub size : length s ≡ configs_offset (count_at s 2) + count_at s 3

pub contents : (s : List ℕ) → contents_right s ≡ accepted tt → Contents s
unfolding contents_right
contents s h =
    let a = passed (within 165 676 (length s)) 1 0 _ tt h in
    let b = passed (entry_right s 0 1 1 1 32) 2 1 _ tt a.1 in
    let c = passed (entry_right s 1 2 1 1 68) 2 2 _ tt b.1 in
    let d = passed (entry_right s 2 3 1 8 100) 2 3 _ tt c.1 in
    let e = passed (entry_right s 3 4 1 64 (configs_offset (count_at s 2))) 2 4 _ tt d.1 in
    record {
      sets-in-range = entry-count s 2 3 1 8 100 d.0;
      configs-in-range = entry-count s 3 4 1 64 (configs_offset (count_at s 2)) e.0;
      size = eqb-true (length s) (configs_offset (count_at s 2) + count_at s 3) (last-passed (eqb (length s) (configs_offset (count_at s 2) + count_at s 3)) 3 0 e.1);
    }

-- what an accepted reading has checked
record Read (s : List ℕ) (st : Station) : Type 0 where
  sets-in-range : within 1 8 (count_at s 2) ≡ true
  configs-in-range : within 1 64 (count_at s 3) ≡ true
  values : values_right (record_of s) ≡ accepted tt
  the-record : record_of s ≡ st

read : (s : List ℕ) (st : Station) → station_file s ≡ accepted st → Read s st
unfolding station_file
read s st h =
    let a = both-passed (contents_right s) (values_right (record_of s) >> accepted (record_of s)) st h in
    let b = both-passed (values_right (record_of s)) (accepted (record_of s)) st a.1 in
    let c = contents s a.0 in
    record {
      sets-in-range = c.sets-in-range;
      configs-in-range = c.configs-in-range;
      values = b.0;
      the-record = same-value (record_of s) st b.1;
    }

-- of the record itself
rules-hold : (s : List ℕ) (st : Station) → Read s st → some_file_gives (record_of s) ≡ true
unfolding some_file_gives record_of
rules-hold s st r =
    let n : ℕ = count_at s 2 in
    let m : ℕ = count_at s 3 in
    let gs : List GenSet = sets_of n (drop 100 s) in
    let ms : List ℕ = littles 1 m (drop (configs_offset n) s) in
    let a : drop n (gs ++ replicate (8 - n) no_set) ≡ replicate (8 - n) no_set = drop_at gs (replicate (8 - n) no_set) n (length-sets_of n (drop 100 s)) in
    let b : drop m (ms ++ replicate (64 - m) 0) ≡ replicate (64 - m) 0 = drop_at ms (replicate (64 - m) 0) m (length-littles 1 m (drop (configs_offset n) s)) in
    and-true
    (and-true (and-true (and-true r.sets-in-range r.configs-in-range) (ap is_accepted r.values)) (ap (every set_unused) a ∙ unused-filled (8 - n)))
    (ap all_zero b ∙ zero-filled (64 - m))

in-shape : (s : List ℕ) (st : Station) → Read s st → Shaped (record_of s)
unfolding record_of
in-shape s st r =
    let n : ℕ = count_at s 2 in
    let m : ℕ = count_at s 3 in
    let a = within-fact 1 8 n r.sets-in-range in
    let b = within-fact 1 64 m r.configs-in-range in
    let c : length (sets_of n (drop 100 s)) ≡ n = length-sets_of n (drop 100 s) in
    let d : length (littles 1 m (drop (configs_offset n) s)) ≡ m = length-littles 1 m (drop (configs_offset n) s) in
    record {
      sets-length = simp (length-append, length-replicate) (omega arith);
      configs-length = simp (length-append, length-replicate) (omega arith);
      curves = shaped-filled n (drop 100 s) (8 - n);
    }

pub read-is-right : (s : List ℕ) (st : Station) → station_file s ≡ accepted st → (some_file_gives st ≡ true) × Shaped st
read-is-right s st h =
    let r = read s st h in
    (ap some_file_gives (sym r.the-record) ∙ rules-hold s st r, rw r.the-record at (in-shape s st r))
