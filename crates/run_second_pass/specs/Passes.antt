-- What the parts of the second pass owe: a chunk, the end of the file, a call of the run, and what follows once bytes were written.
use Rattle.std.specs.Prelude.{ℕ, ◌+◌, ◌≤◌, ◌≡◌, Bool, true, false, List, [], ◌++◌, length, take}
use Rattle.run_phases.specs.declared.state.Phase.{Phase}
use Rattle.run_phases.specs.declared.state.Wants.{Wants}
use Rattle.run_texts.specs.Coming.{finished, weight}
use Rattle.exchange.specs.World.{World, left_of}
use Rattle.run_stages.specs.declared.state.Held.{Held}
use Rattle.run_stages.specs.Stages.{Machine}
use Rattle.run_stages.specs.Given.{Given}
use Rattle.run_stages.specs.Holds.{Running, Handing, Wanting, pass_steps, want_steps}
use Rattle.run_stages.specs.StageSteps.{Nearer}

-- a call of the run with the chunk at the start of the buffer
unfoldable pub HandsOver : Held → List ℕ → List ℕ → Machine → List ℕ → Type 0
HandsOver h buf out r out' =
    (g : Given) (w : World) → 256 ≤ length out → Handing g h w buf w.written → Nearer g r w buf out' (pass_steps h.ended (left_of w 2) + weight h.simulation + 2) (Unit {0})

-- a chunk of the second pass; where both passes read the same, the file is no longer than it was
unfoldable pub EntersSecond : Held → ℕ → List ℕ → List ℕ → List ℕ → Machine → List ℕ → Type 0
EntersSecond h n chunk buf out r out' =
    (g : Given) (w : World) → 256 ≤ length out → n ≤ length buf → chunk ≡ take n buf → Running g h w (chunk ++ left_of w 2)
    → Nearer g r w buf out' (pass_steps false (left_of w 2) + weight h.simulation + 2) (g.again ≡ g.samples)

-- its end; the tallies are then the same
unfoldable pub EndsSecond : Held → List ℕ → List ℕ → Machine → List ℕ → Type 0
EndsSecond h buf out r out' = (g : Given) (w : World) → 256 ≤ length out → Running g h w [] → Nearer g r w buf out' (weight h.simulation + 3) (g.again ≡ g.samples)

-- all is handed over, and it is no run that broke off
abbrev pub is_over : Phase → Bool
is_over (Phase.Refusal refusal) = false
is_over Phase.Heading = false
is_over Phase.Seconds = false
is_over Phase.SetHeading = false
is_over (Phase.SetLine place) = false
is_over Phase.Over = true
is_over Phase.Broken = false

-- nothing more is written: the run is over, or broke off
unfoldable pub Finishes : Held → Machine → Type 0
Finishes h r = (g : Given) (w : World) (buf out : List ℕ) → Handing g h w buf w.written → finished h.simulation.phase ≡ true → Nearer g r w buf out 1 (g.again ≡ g.samples)

-- the run's bytes were written, and it wants so
unfoldable pub GoesOn : Held → Wants → List ℕ → List ℕ → Machine → List ℕ → Type 0
GoesOn h wants buf out r out' =
    (g : Given) (w : World) → 256 ≤ length out → Handing g h w buf w.written → Wanting wants h buf
    → Nearer g r w buf out' (pass_steps h.ended (left_of w 2) + weight h.simulation + want_steps wants) (g.again ≡ g.samples)
