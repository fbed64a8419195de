-- What a run begins with, by what its files and the seconds asked come to. Assumes nothing.
use Prim.Native.Nat.{ℕ, ◌≤◌}
use mathlib.Core.Path.{◌≡◌, refl, sym, subst}
use mathlib.Core.Bool.{false}
use mathlib.Core.List.{List}
use native.Mathlib.Omega.{arith}
use lib.Dec.{leb}
use borrow.Author.Tests.{leb-true}
use Rattle.std.specs.Prelude.{Result, Err, IsOkAnd}
use Rattle.rules.specs.declared.answers.Refusal.{Refusal}
use Rattle.rules.specs.declared.run.Run.{Run}
use Rattle.rules.specs.declared.station.Station.{Station}
use Rattle.rules.specs.Answers.{Answer, accepted, refused, judged, value_or, refusal_of}
use Rattle.rules.specs.StationRecord as records
use Rattle.rules.specs.StationRecord.{no_station, some_file_gives}
use Rattle.rules.specs.RunRecord.{most_seconds, start}
use Rattle.rules.specs.Bytes.{digits, value}
use Rattle.rules.specs.Run.{seconds_asked}
use Rattle.rules.proofs.Checks.{passed, same-value}
use Rattle.records.specs.NoRun.{no_run}
use Rattle.records.proofs.StartTold.{start-refused}
use Rattle.samples.specs.declared.check.Span.{Span}
use Rattle.course.specs.declared.state.Course.{Course}
use Rattle.course.specs.Begin.{Before, BegunAs}

pub asked-most : (s : List ℕ) (v : ℕ) → accepted v ≡ seconds_asked s → v ≤ 316_224_000
unfolding seconds_asked
asked-most s v h =
    let a = passed (digits 9 s) 18 0 _ v (sym h) in
    let b = passed (leb (value s) most_seconds) 23 0 _ v a.1 in
    let small = leb-true (value s) most_seconds b.0 in
    omega (arith, small, same-value (value s) v b.1)

-- no file gives the record of zeros, so that no run starts with it
none-gives : some_file_gives no_station ≡ false
unfolding records.some_file_gives records.values_right records.no_station
none-gives = refl

pub no_start : value_or no_run (start no_station) ≡ no_run
no_start = rw (start-refused no_station none-gives)

-- the course of no station
pub before-nothing : (st : Station) (c : Course) → st ≡ no_station → Before st (value_or no_run (start st)) 0 c → Before no_station no_run 0 c
before-nothing st c e b =
    subst (λ (r : Run). Before no_station r 0 c) no_start (subst (λ (x : Station). Before x (value_or no_run (start x)) 0 c) e b)

-- ---- "station first", then the samples; the seconds asked "after the files"

pub station-refused : (a : Answer Station) (c : Answer Span) (q : Answer ℕ) (refusal : Refusal) → refusal_of refusal ≡ judged a → BegunAs a c q (Err refusal)
station-refused (accepted st) c q refusal e = absurd (let z : ◌≡◌ {A = ℕ} 0 1 = cc in omega arith)
station-refused (refused n p) c q refusal e = let z : refusal_of {A = Course} refusal ≡ refused n p = cc in z

pub samples-refused : (a : Answer Station) (c : Answer Span) (q : Answer ℕ) (refusal : Refusal) → accepted tt ≡ judged a → c ≡ refusal_of refusal → BegunAs a c q (Err refusal)
samples-refused (refused n p) c q refusal ok e = absurd (let z : ◌≡◌ {A = ℕ} 0 1 = cc in omega arith)
samples-refused (accepted st) (accepted span) q refusal ok e = absurd (let z : ◌≡◌ {A = ℕ} 0 1 = cc in omega arith)
samples-refused (accepted st) (refused n p) q refusal ok e = let z : refusal_of {A = Course} refusal ≡ refused n p = cc in z

pub asked-refused : (st : Station) (span : Span) (a : Answer ℕ) (refusal : Refusal) → refusal_of refusal ≡ a → BegunAs (accepted st) (accepted span) a (Err refusal)
asked-refused st span (accepted v) refusal e = absurd (let z : ◌≡◌ {A = ℕ} 0 1 = cc in omega arith)
asked-refused st span (refused n p) refusal e = let z : refusal_of {A = Course} refusal ≡ refused n p = cc in z

pub all-accepted : (a : Answer Station) (c : Answer Span) (q : Answer ℕ) (st : Station) (span : Span) (v : ℕ) (r : Result Course Refusal) → a ≡ accepted st → c ≡ accepted span → q ≡ accepted v
    → IsOkAnd r (Before st (value_or no_run (start st)) v) → BegunAs a c q r
all-accepted a c q st span v r station samples asked h = rw (station, samples, asked) h
