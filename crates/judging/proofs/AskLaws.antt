-- What the reading of both files asks for: a part of the buffer that is not empty, and no stop that has an answer. Assumes nothing.
use Prim.Native.Nat.{ℕ, ◌<◌}
use mathlib.Core.Path.{◌≡◌, refl}
use mathlib.Core.Bool.{false}
use mathlib.Core.List.{List}
use native.Mathlib.Omega.{arith}
use lib.ListN.{length}
use Rattle.exchange.proofs.Expected.{HasRoom}
use Rattle.exchange.proofs.Words.{stops_well}
use Rattle.judging.specs.declared.state.JudgeStage.{JudgeStage}
use Rattle.judging.specs.Stages.{judge_asks}

-- it never stops with an answer
pub reading-asks : (reading : JudgeStage) → stops_well (judge_asks reading) ≡ false
reading-asks JudgeStage.OpenStation = refl
reading-asks JudgeStage.ReadStation = refl
reading-asks JudgeStage.OpenSamples = refl
reading-asks JudgeStage.ToStart = refl
reading-asks JudgeStage.ReadSamples = refl
reading-asks JudgeStage.Judged = refl
reading-asks (JudgeStage.Stopped why) = refl

-- a buffer that is not empty has a part for what it reads
pub reading-room : (reading : JudgeStage) (before : List ℕ) → 0 < length before → HasRoom (judge_asks reading) before
reading-room JudgeStage.OpenStation before some = tt
reading-room JudgeStage.ReadStation before some = omega (arith, some)
reading-room JudgeStage.OpenSamples before some = tt
reading-room JudgeStage.ToStart before some = tt
reading-room JudgeStage.ReadSamples before some = omega (arith, some)
reading-room JudgeStage.Judged before some = tt
reading-room (JudgeStage.Stopped why) before some = tt
