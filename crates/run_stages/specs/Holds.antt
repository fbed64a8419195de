-- WHAT HOLDS at each stage, of what was read and written so far: what the files and the run that are held come to with whatever is left to
-- be read; and how many steps are left, at most.
use Rattle.std.specs.Prelude.{ℕ, ◌+◌, ◌*◌, ◌≤◌, ◌≡◌, Bool, true, false, List, [], ◌∷◌, ◌++◌, length, take, drop}
use Rattle.rules.specs.declared.answers.Refusal.{Refusal}
use Rattle.rules.specs.Answers.{value_or}
use Rattle.rules.specs.Run.{seconds_asked}
use Rattle.rows.specs.AnswerLine.{refused_line}
use Rattle.tally.specs.declared.Tally.{Tally}
use Rattle.tally.specs.Tally.{no_bytes, tallied_of}
use Rattle.run_phases.specs.declared.state.Simulation.{Simulation}
use Rattle.run_phases.specs.declared.state.Wants.{Wants}
use Rattle.run_texts.specs.Coming.{finished, weight}
use Rattle.exchange.specs.declared.action.Word.{Word}
use Rattle.exchange.specs.World.{World, left_of, again_of}
use Rattle.exchange.specs.Existing.{gives_up}
use Rattle.exchange.specs.Events.{Begins}
use Rattle.judging.specs.Stages.{judge_asks}
use Rattle.judging.specs.Holds.{Judged, JudgeHolds, judge_steps}
use Rattle.run_stages.specs.declared.state.Stage.{Stage}
use Rattle.run_stages.specs.Stages.{Machine}
use Rattle.run_stages.specs.declared.state.Held.{Held}
use Rattle.run_stages.specs.Given.{Given, files_of, text, Called, Agreed, Goes, OfSome, Sets}

-- until both files are judged
pub record Reading (g : Given) (h : Held) (w : World) : Type 0 where
  -- there is still something to read
  pub ready : gives_up (judge_asks h.judging.stage) ≡ false
  pub files : JudgeHolds (files_of g) h.judging w
  pub second : h.second ≡ no_bytes
  pub asked : w.arguments 3 ≡ g.asked
  pub unwritten : w.written ≡ []

-- both files are judged, or the station is refused
pub record Asking (g : Given) (h : Held) (w : World) : Type 0 where
  pub called : Called w.count
  pub files : Judged (files_of g) h.judging.held w
  pub second : h.second ≡ no_bytes
  pub asked : w.arguments 3 ≡ g.asked
  pub unwritten : w.written ≡ []

-- before the second pass
pub record Returning (g : Given) (h : Held) (w : World) : Type 0 where
  pub called : Called w.count
  pub goes : g.again ≡ g.samples → Goes g h.simulation g.again []
  pub rows : OfSome h.simulation []
  pub first : h.judging.held.tally ≡ tallied_of no_bytes g.samples
  pub second : h.second ≡ no_bytes
  pub passes : again_of w 2 ≡ g.again ∷ []
  pub unwritten : w.written ≡ []

pub record Running (g : Given) (h : Held) (w : World) (left : List ℕ) : Type 0 where
  pub called : Called w.count
  pub goes : g.again ≡ g.samples → Goes g h.simulation left w.written
  pub rows : OfSome h.simulation w.written
  pub first : h.judging.held.tally ≡ tallied_of no_bytes g.samples
  pub second : tallied_of h.second left ≡ tallied_of no_bytes g.again
  -- with what is left, no byte is counted twice
  pub counted : g.again ≡ g.samples → h.second.count + length left ≡ length g.again

-- what is left of the sample file after the chunk
abbrev pub after_chunk : Bool → List ℕ → List ℕ
after_chunk true left = []
after_chunk false left = left

-- the end was told only after the tallies agreed
abbrev pub Tallies : Bool → Given → Tally → Tally → List ℕ → Simulation → List ℕ → Type 0
Tallies true g first second left s done = Agreed g
Tallies false g first second left s done = (first ≡ tallied_of no_bytes g.samples) × (tallied_of second left ≡ tallied_of no_bytes g.again) × OfSome s done × (g.again ≡ g.samples → second.count + length left ≡ length g.again)

-- what the run has still to read: the rest of the chunk at the start of the buffer, and then of the file
abbrev pub to_read : Held → World → List ℕ → List ℕ
to_read h w buf = drop h.at (take h.chunk buf) ++ after_chunk h.ended (left_of w 2)

-- before a call of the run, where so much is written
pub record Handing (g : Given) (h : Held) (w : World) (buf done : List ℕ) : Type 0 where
  pub called : Called w.count
  pub goes : g.again ≡ g.samples → Goes g h.simulation (to_read h w buf) done
  -- the chunk lies within the buffer
  pub within : h.chunk ≤ length buf
  pub tallies : Tallies h.ended g h.judging.held.tally h.second (left_of w 2) h.simulation done

-- what the run wants after the bytes that are to be written
abbrev pub Wanting : Wants → Held → List ℕ → Type 0
Wanting Wants.Further h buf = ⊥
Wanting Wants.Input h buf = (drop h.at (take h.chunk buf) ≡ []) × (h.ended ≡ false)
Wanting Wants.Room h buf = Unit {0}
Wanting Wants.Nothing h buf = finished h.simulation.phase ≡ true

pub record Writing (g : Given) (h : Held) (w : World) (size : ℕ) (wants : Wants) (buf out : List ℕ) : Type 0 where
  pub handing : Handing g h w buf (w.written ++ take size out)
  pub wanting : Wanting wants h buf

-- all of a refusal's line is to be written
pub record Answering (g : Given) (w : World) (size : ℕ) (refusal : Refusal) (out : List ℕ) : Type 0 where
  pub called : Called w.count
  pub line : take size out ≡ text g
  pub carried : text g ≡ refused_line refusal
  pub unwritten : w.written ≡ []

-- of a program that stops without a complete answer: what is written begins the text
abbrev pub Unfinished : Given → List ℕ → Type 0
Unfinished g done = (g.again ≡ g.samples → Begins (text g) done) × Sets g done

-- WHAT IS WRITTEN at the end: all of the text, of a program that was called with so many arguments; or how it begins
abbrev pub Stopped : Word → Given → World → Type 0
Stopped Word.Complete g w = (g.again ≡ g.samples → w.written ≡ text g) × Agreed g × Called w.count
Stopped (Word.Refused refusal) g w = (w.written ≡ text g) × (text g ≡ refused_line refusal) × Called w.count
Stopped (Word.Nothing why) g w = Unfinished g w.written

abbrev pub HoldsAt : Stage → Given → Held → World → List ℕ → List ℕ → Type 0
HoldsAt Stage.Counting g h w buf out = Reading g h w
HoldsAt Stage.Telling g h w buf out = Reading g h w × (w.count ≡ 5)
HoldsAt Stage.Judging g h w buf out = Reading g h w × Called w.count
HoldsAt Stage.AskSeconds g h w buf out = Asking g h w
HoldsAt Stage.ToSecondPass g h w buf out = Returning g h w
HoldsAt Stage.SecondPass g h w buf out = Running g h w (left_of w 2)
HoldsAt (Stage.Write size wants) g h w buf out = Writing g h w size wants buf out
HoldsAt (Stage.Answer size refusal) g h w buf out = Answering g w size refusal out
HoldsAt (Stage.Stop word) g h w buf out = Stopped word g w

abbrev pub Holds : Given → Machine → World → List ℕ → List ℕ → Type 0
Holds g m w buf out = HoldsAt m.stage g m.held w buf out

-- ---- how many steps are left, at most: each read brings a byte, and each call of the run that wants room brings it nearer to its end

abbrev pub seconds_of : List ℕ → ℕ
seconds_of asked = value_or 0 (seconds_asked asked)

-- once both files are judged
abbrev pub steps_judged : Given → ℕ
steps_judged g = 3 * length g.again + seconds_of g.asked + 20

abbrev pub want_steps : Wants → ℕ
want_steps Wants.Further = 1
want_steps Wants.Input = 1
want_steps Wants.Room = 2
want_steps Wants.Nothing = 1

-- of what is left of the second pass
abbrev pub pass_steps : Bool → List ℕ → ℕ
pass_steps true left = 0
pass_steps false left = 3 * length left + 3

abbrev pub steps_at : Stage → Given → Held → World → ℕ
steps_at Stage.Counting g h w = judge_steps (files_of g) h.judging w + steps_judged g + 2
steps_at Stage.Telling g h w = judge_steps (files_of g) h.judging w + steps_judged g + 1
steps_at Stage.Judging g h w = judge_steps (files_of g) h.judging w + steps_judged g
steps_at Stage.AskSeconds g h w = steps_judged g
steps_at Stage.ToSecondPass g h w = 3 * length g.again + weight h.simulation + 4
steps_at Stage.SecondPass g h w = 3 * length (left_of w 2) + weight h.simulation + 3
steps_at (Stage.Write size wants) g h w = pass_steps h.ended (left_of w 2) + weight h.simulation + want_steps wants
steps_at (Stage.Answer size refusal) g h w = 1
steps_at (Stage.Stop word) g h w = 0

abbrev pub steps_left : Given → Machine → World → ℕ
steps_left g m w = steps_at m.stage g m.held w
