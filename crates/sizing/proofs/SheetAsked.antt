-- The checks of the two files, of which the screen wants the verdict alone. Assumes nothing.
use Rattle.std.specs.Prelude.{Ok, Err, Result}
use Rattle.std.specs.Result.{result_and}
use Prim.Native.Nat.{ℕ}
use mathlib.Core.Path.{◌≡◌, refl, ap, ◌∙◌}
use mathlib.Core.List.{List}
use Rattle.rules.specs.declared.answers.Refusal.{Refusal}
use Rattle.rules.specs.Answers.{judged, result_of}
use Rattle.rules.specs.Sizing.{sample_check}
use Rattle.samples.specs.declared.check.Span.{Span}
use Rattle.samples.specs.Streamed.{sheet_span}
use Rattle.samples.proofs.CheckLaws.{span-judged}
use Rattle.sizing.specs.Screen.{screen_answer, screen_verdict}

-- 0 in place of what was accepted
pub zero-for : {A : Type 0} (v : Result A Refusal) → screen_answer (result_of (result_and v (Ok 0))) ≡ screen_verdict (judged (result_of v))
zero-for (Ok a) = refl
zero-for (Err why) = refl

pub sheet-verdict : (file : List ℕ) (v : Result Span Refusal) → result_of v ≡ sheet_span file → screen_verdict (judged (result_of v)) ≡ screen_verdict (sample_check file)
sheet-verdict file v is = ap screen_verdict (ap judged is ∙ span-judged file)
