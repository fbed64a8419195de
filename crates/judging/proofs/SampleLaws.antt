-- What the first pass over the sample file keeps. Assumes nothing.
use Prim.Native.Nat.{ℕ, ◌<◌}
use mathlib.Core.Path.{◌≡◌, refl, sym, ap, ◌∙◌}
use mathlib.Core.Bool.{true}
use mathlib.Core.List.{List, [], ◌∷◌, ◌++◌}
use native.Mathlib.Omega.{arith}
use lib.ListN.{length, take, drop}
use Rattle.rules.specs.Answers.{accepted}
use Rattle.rules.proofs.Tests.{never}
use Rattle.tally.specs.declared.Tally.{Tally}
use Rattle.station.specs.Stations.{is_refused}
use Rattle.tally.specs.Tally.{tallied_of}
use Rattle.tally.proofs.TallyLaws.{tallied-append}
use Rattle.samples.specs.declared.check.SampleCheck.{SampleCheck}
use Rattle.samples.specs.declared.check.Span.{Span}
use Rattle.sheet_stages.specs.declared.stage.Stage as sheets
use Rattle.sheet_stages.specs.ToCome.{to_come, up_to_refused, answer_from}
use Rattle.sheet_stages.specs.ToCome as stages
use Rattle.sample_rows.specs.Streamed.{yet_to_come, lines_after, begun_in}
use Rattle.samples.specs.Streamed.{checked_with, spanned}
use Rattle.samples.proofs.CheckLaws.{span-place}
use Rattle.samples.proofs.ChunkLaws.{refused-for-good}
use Rattle.exchange.specs.declared.event.Event.{Event}
use Rattle.exchange.specs.World.{World, left_of, again_of, with_file}
use Rattle.judging.specs.declared.state.JudgeStage.{JudgeStage}
use Rattle.judging.specs.declared.state.Held.{Held}
use Rattle.judging.specs.Stages.{Judging}
use Rattle.judging.specs.Holds.{Files, Checking, JudgesFrom, EntersSamples}
use Rattle.judging.proofs.StopLaws.{less-left}

abbrev pub with_samples : Held → SampleCheck → Tally → Held
with_samples h c t = record { twice = h.twice; file = h.file; size = h.size; check = c; tally = t }

-- `feed` and `tallied` were handed a chunk, and gave c and t
abbrev pub FedSamples : Held → List ℕ → SampleCheck → Type 0
FedSamples h chunk c = (rest : List ℕ) → checked_with h.check (chunk ++ rest) ≡ checked_with c rest

samples-on : (g : Files) (h : Held) (w : World) (c : SampleCheck) (t : Tally) (chunk left : List ℕ) → FedSamples h chunk c → t ≡ tallied_of h.tally chunk → Checking g h w (chunk ++ left)
    → Checking g (with_samples h c t) w left
samples-on g h w c t chunk left fed is o =
    record {
      station = o.station;
      check = sym (fed left) ∙ o.check;
      tally = ap (λ (x : Tally). tallied_of x left) is ∙ sym (tallied-append h.tally chunk left) ∙ o.tally;
      later = o.later;
    }

pub samples-enter : (h : Held) (chunk : List ℕ) (c : SampleCheck) (t : Tally) → FedSamples h chunk c → t ≡ tallied_of h.tally chunk → EntersSamples h chunk (record { stage = JudgeStage.ReadSamples; held = with_samples h c t })
unfolding EntersSamples
samples-enter h chunk c t fed is g w o = (samples-on g h w c t chunk (left_of w 2) fed is o, omega arith, λ well. refl)

-- a line that was refused is no accepted file
refused-line : {A : Type 0} (c : SampleCheck) (span : Span) → stages.is_refused c.reader.stage ≡ true → checked_with c [] ≡ accepted span → A
unfolding checked_with yet_to_come to_come up_to_refused answer_from
refused-line {A} c span h = go c.reader.stage h
  where
    go : (s : sheets.Stage) → stages.is_refused s ≡ true → spanned c.span (to_come s (lines_after (begun_in c.reader) [])) ≡ accepted span → A
    go sheets.Stage.Heading e p = never e
    go (sheets.Stage.FirstRow columns) e p = never e
    go (sheets.Stage.LaterRows columns last n) e p = never e
    go (sheets.Stage.Refused r) e p = never (sym (ap is_refused p))

-- and the rest of the file changes nothing
pub samples-cut : (h : Held) (chunk : List ℕ) (c : SampleCheck) (t : Tally) → FedSamples h chunk c → t ≡ tallied_of h.tally chunk → stages.is_refused c.reader.stage ≡ true
    → EntersSamples h chunk (record { stage = JudgeStage.Judged; held = with_samples h c t })
unfolding EntersSamples
samples-cut h chunk c t fed is cut g w o =
    let k = samples-on g h w c t chunk (left_of w 2) fed is o in (
      record {
        station = k.station;
        check = λ st p. refused-for-good c (left_of w 2) cut ∙ k.check ∙ span-place g.samples g.small;
        tally = λ st span p q. refused-line c span cut q;
        later = λ st p. k.later;
      },
      omega arith,
      λ well. refl,
    )

-- ---- the steps from the stage

pub samples-read-steps : (h : Held) (n : ℕ) (buf chunk : List ℕ) (r : Judging) → chunk ≡ take n buf → EntersSamples h chunk r → JudgesFrom JudgeStage.ReadSamples h (Event.Read n) buf r
unfolding JudgesFrom EntersSamples
samples-read-steps h n buf chunk r is enters g w before out some o f =
    let w' : World = with_file w 2 (drop n (left_of w 2) ∷ again_of w 2) in
    let left : left_of w 2 ≡ chunk ++ drop n (left_of w 2) = f.0.2 ∙ ap (λ (l : List ℕ). l ++ drop n (left_of w 2)) (sym is) in
    let fewer : length (drop n (left_of w 2)) < length (left_of w 2) = less-left n buf (left_of w 2) f.0.0 (let h = f.0.1 in omega (arith, h)) f.0.2 in
    let k = enters g w' (record { station = o.station; check = ap (checked_with h.check) (sym left) ∙ o.check; tally = ap (tallied_of h.tally) (sym left) ∙ o.tally; later = o.later }) in
    (k.0, let less = k.1 in omega (arith, less, fewer), λ well. k.2 tt)

pub samples-end-steps : (h : Held) (buf : List ℕ) → JudgesFrom JudgeStage.ReadSamples h Event.End buf (record { stage = JudgeStage.Judged; held = h })
unfolding tallied_of JudgesFrom
samples-end-steps h buf g w before out some o f = (
  record {
    station = o.station;
    check = λ st p. ap (checked_with h.check) (sym f.0) ∙ o.check ∙ span-place g.samples g.small;
    tally = λ st span p q. ap (tallied_of h.tally) (sym f.0) ∙ o.tally;
    later = λ st p. o.later;
  },
  omega arith,
  λ well. refl,
)
