-- WHAT HOLDS between two actions, of what was read so far: what the station's bytes, the check and the tally that are held come to with
-- whatever is left to be read; how many steps are left; and what each step owes.
use Rattle.std.specs.Prelude.{ℕ, ◌+◌, ◌≤◌, ◌<◌, ◌≡◌, Bool, true, false, List, [], ◌∷◌, ◌++◌, length}
use Rattle.rules.specs.declared.station.Station.{Station}
use Rattle.rules.specs.Answers.{accepted}
use Rattle.rules.specs.StationFile.{station_file}
use Rattle.station.specs.Stations.{station_with}
use Rattle.tally.specs.Tally.{no_bytes, tallied_of}
use Rattle.samples.specs.declared.check.Span.{Span}
use Rattle.sheet_stages.specs.ToCome.{most_place, placed}
use Rattle.samples.specs.Streamed.{sheet_span, checked_with}
use Rattle.exchange.specs.declared.event.Event.{Event}
use Rattle.exchange.specs.Existing.{is_failed}
use Rattle.exchange.specs.World.{World, left_in, again_in, left_of, again_of, Fits, after}
use Rattle.judging.specs.declared.state.JudgeStage.{JudgeStage}
use Rattle.judging.specs.declared.state.Held.{Held}
use Rattle.judging.specs.Stages.{Judging}
use Rattle.judging.specs.Stages.{judge_asks, is_stopped}

-- the files as they are read
pub record Files : Type 0 where
  pub station : List ℕ
  -- the sample file in its first pass, and what it has each further time that it is read from its start
  pub samples : List ℕ
  pub later : List (List ℕ)
  -- "fewer than 2^64 bytes"
  pub small : length samples ≤ most_place

-- the first pass is still to come: from the file's start once more, or from where it is opened
abbrev pub Ahead : Bool → Files → List (List ℕ) → Type 0
Ahead true g file = again_in file ≡ g.samples ∷ g.later
Ahead false g file = (left_in file ≡ g.samples) × (again_in file ≡ g.later)

-- until the first pass begins
pub record Opening (g : Files) (h : Held) (w : World) (left : List ℕ) : Type 0 where
  pub station : station_with h.file left ≡ station_file g.station
  pub check : checked_with h.check g.samples ≡ placed (sheet_span g.samples)
  pub tally : h.tally ≡ no_bytes
  pub ahead : Ahead h.twice g (w.files 2)

-- in the first pass
pub record Checking (g : Files) (h : Held) (w : World) (left : List ℕ) : Type 0 where
  pub station : station_with h.file [] ≡ station_file g.station
  pub check : checked_with h.check left ≡ placed (sheet_span g.samples)
  pub tally : tallied_of h.tally left ≡ tallied_of no_bytes g.samples
  pub later : again_of w 2 ≡ g.later

-- both files are judged, or the station is refused; of a sample file that is accepted all bytes are tallied
pub record Judged (g : Files) (h : Held) (w : World) : Type 0 where
  pub station : station_with h.file [] ≡ station_file g.station
  pub check : (st : Station) → station_file g.station ≡ accepted st → checked_with h.check [] ≡ sheet_span g.samples
  pub tally : (st : Station) (span : Span) → station_file g.station ≡ accepted st → checked_with h.check [] ≡ accepted span → h.tally ≡ tallied_of no_bytes g.samples
  pub later : (st : Station) → station_file g.station ≡ accepted st → again_of w 2 ≡ g.later

abbrev pub JudgeHoldsAt : JudgeStage → Files → Held → World → Type 0
JudgeHoldsAt JudgeStage.OpenStation g h w = Opening g h w (left_of w 1)
JudgeHoldsAt JudgeStage.ReadStation g h w = Opening g h w (left_of w 1)
JudgeHoldsAt JudgeStage.OpenSamples g h w = Opening g h w []
JudgeHoldsAt JudgeStage.ToStart g h w = Opening g h w [] × (h.twice ≡ true)
JudgeHoldsAt JudgeStage.ReadSamples g h w = Checking g h w (left_of w 2)
JudgeHoldsAt JudgeStage.Judged g h w = Judged g h w
JudgeHoldsAt (JudgeStage.Stopped why) g h w = Unit {0}

abbrev pub JudgeHolds : Files → Judging → World → Type 0
JudgeHolds g j w = JudgeHoldsAt j.stage g j.held w

-- ---- how many steps are left, at most: each read brings a byte

abbrev pub judge_steps_at : JudgeStage → Files → World → ℕ
judge_steps_at JudgeStage.OpenStation g w = length (left_of w 1) + length g.samples + 5
judge_steps_at JudgeStage.ReadStation g w = length (left_of w 1) + length g.samples + 4
judge_steps_at JudgeStage.OpenSamples g w = length g.samples + 3
judge_steps_at JudgeStage.ToStart g w = length g.samples + 2
judge_steps_at JudgeStage.ReadSamples g w = length (left_of w 2) + 1
judge_steps_at JudgeStage.Judged g w = 0
judge_steps_at (JudgeStage.Stopped why) g w = 0

abbrev pub judge_steps : Files → Judging → World → ℕ
judge_steps g j w = judge_steps_at j.stage g w

-- ---- what each step owes

-- what holds stays so, and a step less is left; and where all went well, the reading does not stop
abbrev pub Nearer : Files → Judging → World → ℕ → Type 0 → Type 0
Nearer g r w most well = JudgeHolds g r w × (judge_steps g r w < most) × (well → is_stopped r.stage ≡ false)

-- a step from a stage, at an event that may follow what the stage asks for; only a failure stops the reading
unfoldable pub JudgesFrom : JudgeStage → Held → Event → List ℕ → Judging → Type 0
JudgesFrom stage h e buf r =
    (g : Files) (w : World) (before out : List ℕ) (some : ℕ) → JudgeHoldsAt stage g h w → Fits (judge_asks stage) e w before buf
    → Nearer g r (after (judge_asks stage) e some w out) (judge_steps_at stage g w) (is_failed e ≡ false)

-- the station file has come to its end, or nothing that follows changes the answer
unfoldable pub EndsStation : Held → Judging → Type 0
EndsStation h r = (g : Files) (w : World) → Opening g h w [] → Nearer g r w (length g.samples + 4) (Unit {0})

-- a chunk of the station file
unfoldable pub EntersStation : Held → List ℕ → Judging → Type 0
EntersStation h chunk r = (g : Files) (w : World) → Opening g h w (chunk ++ left_of w 1) → Nearer g r w (length (left_of w 1) + length g.samples + 5) (Unit {0})

-- a chunk of the sample file
unfoldable pub EntersSamples : Held → List ℕ → Judging → Type 0
EntersSamples h chunk r = (g : Files) (w : World) → Checking g h w (chunk ++ left_of w 2) → Nearer g r w (length (left_of w 2) + 2) (Unit {0})

-- the program begins, with nothing read
pub record Unread (twice : Bool) (g : Files) (w : World) : Type 0 where
  pub station : left_of w 1 ≡ g.station
  pub ahead : Ahead twice g (w.files 2)

-- the first state
pub record Begins (twice : Bool) (r : Judging) : Type 0 where
  pub stage_is : r.stage ≡ JudgeStage.OpenStation
  pub holds : (g : Files) (w : World) → Unread twice g w → Opening g r.held w (left_of w 1)
