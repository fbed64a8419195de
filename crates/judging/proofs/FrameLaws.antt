-- What the reading of both files leaves alone: the output and the arguments. A program that holds it needs this of its own steps.
-- Assumes nothing.
use Prim.Native.Nat.{ℕ}
use mathlib.Core.Path.{◌≡◌, refl}
use mathlib.Core.List.{List}
use Rattle.exchange.specs.declared.event.Event.{Event}
use Rattle.exchange.specs.World.{World, after, after_read, after_rewind}
use Rattle.judging.specs.declared.state.JudgeStage.{JudgeStage}
use Rattle.judging.specs.Stages.{judge_asks}

-- two states of the system with the same output and the same arguments
pub record SameFrame (w' w : World) : Type 0 where
  pub written : w'.written ≡ w.written
  pub count : w'.count ≡ w.count
  pub arguments : w'.arguments ≡ w.arguments

same : (w : World) → SameFrame w w
same w = record { written = refl; count = refl; arguments = refl }

pub read-frame : (e : Event) (k : ℕ) (w : World) → SameFrame (after_read e k w) w
read-frame Event.Done k w = same w
read-frame (Event.Count n) k w = same w
read-frame (Event.Read n) k w = record { written = refl; count = refl; arguments = refl }
read-frame Event.End k w = same w
read-frame Event.Failed k w = same w

pub rewind-frame : (e : Event) (k : ℕ) (w : World) → SameFrame (after_rewind e k w) w
rewind-frame Event.Done k w = record { written = refl; count = refl; arguments = refl }
rewind-frame (Event.Count n) k w = same w
rewind-frame (Event.Read n) k w = same w
rewind-frame Event.End k w = same w
rewind-frame Event.Failed k w = same w

judging-frame : (stage : JudgeStage) (e : Event) (some : ℕ) (w : World) (out : List ℕ) → SameFrame (after (judge_asks stage) e some w out) w
judging-frame JudgeStage.OpenStation e some w out = same w
judging-frame JudgeStage.ReadStation e some w out = read-frame e 1 w
judging-frame JudgeStage.OpenSamples e some w out = same w
judging-frame JudgeStage.ToStart e some w out = rewind-frame e 2 w
judging-frame JudgeStage.ReadSamples e some w out = read-frame e 2 w
judging-frame JudgeStage.Judged e some w out = same w
judging-frame (JudgeStage.Stopped why) e some w out = same w

pub judging-writes-nothing : (stage : JudgeStage) (e : Event) (some : ℕ) (w : World) (out : List ℕ) → (after (judge_asks stage) e some w out).written ≡ w.written
judging-writes-nothing stage e some w out = (judging-frame stage e some w out).written

-- how many there are, and each argument's own bytes
pub judging-keeps-arguments : (stage : JudgeStage) (e : Event) (some : ℕ) (w : World) (out : List ℕ)
    → ((after (judge_asks stage) e some w out).count ≡ w.count) × ((after (judge_asks stage) e some w out).arguments ≡ w.arguments)
judging-keeps-arguments stage e some w out = let f = judging-frame stage e some w out in (f.count, f.arguments)
