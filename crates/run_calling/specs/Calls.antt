-- What the parts of the steps up to the second pass owe: how the program was called, and the seconds asked.
use Rattle.std.specs.Prelude.{ℕ, ◌≤◌, ◌≡◌, Bool, true, List, [], ◌∷◌, length, take}
use Rattle.rules.specs.declared.answers.Refusal.{Refusal}
use Rattle.rules.specs.Run.{seconds_asked}
use Rattle.rows.specs.AnswerLine.{refused_line}
use Rattle.exchange.specs.World.{World}
use Rattle.run_stages.specs.declared.state.Stage.{Stage}
use Rattle.run_stages.specs.declared.state.Held.{Held}
use Rattle.run_stages.specs.Stages.{Machine}
use Rattle.run_stages.specs.Given.{Given, text, RightCall, Called}
use Rattle.run_stages.specs.Holds.{Reading, Asking, steps_at, steps_judged}
use Rattle.run_stages.specs.StageSteps.{Nearer}

-- so many arguments there are
unfoldable pub CallsWith : Held → ℕ → Machine → Type 0
CallsWith h count r = (g : Given) (w : World) (buf out : List ℕ) → Reading g h w → count ≡ w.count → Nearer g r w buf out (steps_at Stage.Counting g h w) (RightCall w.count (w.arguments 4))

-- the bytes are the word `-3`, where so many of them are the argument
unfoldable pub Tells : List ℕ → ℕ → Bool → Type 0
Tells word size r = size ≤ length word → take size word ≡ 45 ∷ 51 ∷ [] → r ≡ true

-- the fifth argument is that word, or not
unfoldable pub Names : Held → Bool → Machine → Type 0
Names h told r = (g : Given) (w : World) (buf out : List ℕ) → Reading g h w → w.count ≡ 5 → Nearer g r w buf out (steps_at Stage.Telling g h w) (told ≡ true)

-- a refusal's line is put
unfoldable pub Answers : Held → Refusal → List ℕ → Machine → List ℕ → Type 0
Answers h refusal out r out' = (g : Given) (w : World) (buf : List ℕ) → 256 ≤ length out → text g ≡ refused_line refusal → Called w.count → w.written ≡ [] → Nearer g r w buf out' 2 (Unit {0})

-- the argument SECONDS, of which `asked` are the first bytes
unfoldable pub Begun : Held → List ℕ → List ℕ → Machine → List ℕ → Type 0
Begun h asked out r out' = (g : Given) (w : World) (buf : List ℕ) → 256 ≤ length out → Asking g h w → seconds_asked asked ≡ seconds_asked g.asked → Nearer g r w buf out' (steps_judged g) (Unit {0})
