-- WHAT HOLDS between two actions, of what was read and written so far; how many steps are left; and what each step owes.
-- `proofs/Program.antt` has the theorem over lists of events.
use Rattle.std.specs.Prelude.{ℕ, ◌+◌, ◌≤◌, ◌<◌, ◌≡◌, false, List, [], ◌++◌, length, take}
use Rattle.rules.specs.declared.answers.Refusal.{Refusal}
use Rattle.rules.specs.declared.station.Station.{Station}
use Rattle.rules.specs.Answers.{accepted}
use Rattle.rules.specs.StationFile.{station_file}
use Rattle.rows.specs.AnswerLine.{accepted_line, refused_line}
use Rattle.exchange.specs.declared.action.Word.{Word}
use Rattle.exchange.specs.declared.event.Event.{Event}
use Rattle.exchange.specs.Existing.{is_failed, is_nothing, gives_up}
use Rattle.exchange.specs.World.{World, left_in, left_of, again_of, Fits, after}
use Rattle.exchange.specs.Events.{Begins}
use Rattle.judging.specs.Stages.{judge_asks}
use Rattle.judging.specs.Holds.{Files, Judged, JudgeHolds, judge_steps, Unread}
use Rattle.judging.specs.Holds as judging
use Rattle.check_machine.specs.declared.state.Stage.{Stage}
use Rattle.check_machine.specs.declared.state.Held.{Held}
use Rattle.check_machine.specs.Stages.{Machine}
use Rattle.check_machine.specs.Answer.{answered}
use Rattle.check_machine.specs.Stages.{asks, asks_of}

-- what is to be printed of these files
abbrev pub text : Files → List ℕ
text g = answered g.station g.samples

-- WHAT A WORD TELLS of the bytes that were written, where there are so many arguments: all of the text and which line it is, or how it begins
abbrev pub WordMeans : Word → Files → ℕ → List ℕ → Type 0
WordMeans Word.Complete g count done = (done ≡ text g) × (text g ≡ accepted_line) × (count ≡ 3)
WordMeans (Word.Refused r) g count done = (done ≡ text g) × (text g ≡ refused_line r) × (count ≡ 3)
WordMeans (Word.Nothing why) g count done = Begins (text g) done

-- until both files are judged nothing is written
pub record Reading (g : Files) (h : Held) (w : World) : Type 0 where
  -- there is still something to read
  pub ready : gives_up (judge_asks h.judging.stage) ≡ false
  pub judges : JudgeHolds g h.judging w
  pub unwritten : w.written ≡ []

-- `out` is the output buffer, whose first bytes are to be written
abbrev pub HoldsAt : Stage → Files → Held → World → List ℕ → Type 0
HoldsAt Stage.Counting g h w out = Reading g h w
HoldsAt Stage.Judging g h w out = Reading g h w × (w.count ≡ 3)
HoldsAt (Stage.Answer size word) g h w out = WordMeans word g w.count (w.written ++ take size out) × (is_nothing word ≡ false)
HoldsAt (Stage.LineAnswer size r) g h w out = WordMeans (Word.Refused r) g w.count (w.written ++ take size out)
HoldsAt (Stage.ToLines r) g h w out = WordMeans (Word.Refused r) g w.count w.written
HoldsAt (Stage.Lines r) g h w out = WordMeans (Word.Refused r) g w.count w.written
HoldsAt (Stage.Stop word) g h w out = WordMeans word g w.count w.written

abbrev pub Holds : Files → Machine → World → List ℕ → Type 0
Holds g m w out = HoldsAt m.stage g m.held w out

-- ---- how many steps are left, at most: each read brings a byte

abbrev pub steps_at : Stage → Files → Held → World → ℕ
steps_at Stage.Counting g h w = judge_steps g h.judging w + length (left_in g.later) + 4
steps_at Stage.Judging g h w = judge_steps g h.judging w + length (left_in g.later) + 3
steps_at (Stage.Answer size word) g h w = 1
steps_at (Stage.LineAnswer size r) g h w = length (left_in (again_of w 2)) + 3
steps_at (Stage.ToLines r) g h w = length (left_in (again_of w 2)) + 2
steps_at (Stage.Lines r) g h w = length (left_of w 2) + 1
steps_at (Stage.Stop word) g h w = 0

abbrev pub steps : Files → Machine → World → ℕ
steps g m w = steps_at m.stage g m.held w

-- ---- what each step owes

-- ALL WENT WELL: nothing failed, the buffers are large enough, and the program was called with two arguments
pub record Well (w : World) (e : Event) (buf out : List ℕ) : Type 0 where
  pub event : is_failed e ≡ false
  pub reads : 0 < length buf
  pub room : 256 ≤ length out
  pub call : w.count ≡ 3

-- what holds stays so, and fewer steps are left; and where all went well, the program does not give up
abbrev pub Nearer : Files → Machine → World → List ℕ → ℕ → Type 0 → Type 0
Nearer g r w out most well = Holds g r w out × (steps g r w < most) × (well → gives_up (asks_of r) ≡ false)

-- a step from a stage, at an event that may follow what the stage asks for
unfoldable pub StepsFrom : Stage → Held → Event → List ℕ → List ℕ → Machine → List ℕ → Type 0
StepsFrom stage h e buf out r out' =
    (g : Files) (w : World) (before : List ℕ) (some : ℕ) → HoldsAt stage g h w out → Fits (asks stage h.judging.stage) e w before buf
    → Nearer g r (after (asks stage h.judging.stage) e some w out) out' (steps_at stage g h w) (Well w e buf out)

-- THE STEP; the output buffer keeps its length
unfoldable pub Steps : Machine → Event → List ℕ → List ℕ → Machine → List ℕ → Type 0
Steps m e buf out r out' = (length out' ≡ length out) × StepsFrom m.stage m.held e buf out r out'

-- nothing is written yet
pub record Unanswered (w : World) : Type 0 where
  pub unwritten : w.written ≡ []
  pub called : w.count ≡ 3

-- the steps that are left once both files are judged, and one more
abbrev pub most_after : Files → ℕ
most_after g = length (left_in g.later) + 4

-- both files are in order; a buffer of 256 bytes has room for every line
unfoldable pub Accepts : List ℕ → Machine → List ℕ → Type 0
Accepts out r out' = (g : Files) (w : World) → Unanswered w → text g ≡ accepted_line → Nearer g r w out' (most_after g) (256 ≤ length out)

-- one of them is refused so
unfoldable pub Refuses : Refusal → List ℕ → Machine → List ℕ → Type 0
Refuses refusal out r out' = (g : Files) (w : World) → Unanswered w → text g ≡ refused_line refusal → Nearer g r w out' (most_after g) (256 ≤ length out)

-- and it is the sample file
unfoldable pub RefusesLine : Refusal → List ℕ → Machine → List ℕ → Type 0
RefusesLine refusal out r out' = (g : Files) (w : World) → Unanswered w → text g ≡ refused_line refusal → again_of w 2 ≡ g.later → Nearer g r w out' (most_after g) (256 ≤ length out)

-- the station is in order
unfoldable pub AnswersSamples : Held → List ℕ → Machine → List ℕ → Type 0
AnswersSamples h out r out' =
    (g : Files) (w : World) (st : Station) → Unanswered w → Judged g h.judging.held w → station_file g.station ≡ accepted st → Nearer g r w out' (most_after g) (256 ≤ length out)

-- both files are judged, or the station is refused
unfoldable pub Answers : Held → List ℕ → Machine → List ℕ → Type 0
Answers h out r out' = (g : Files) (w : World) → Unanswered w → Judged g h.judging.held w → Nearer g r w out' (most_after g) (256 ≤ length out)

-- the answer is written, and a chunk of the sample file has come
unfoldable pub Searches : Refusal → Machine → Type 0
Searches refusal r = (g : Files) (w : World) (out : List ℕ) → WordMeans (Word.Refused refusal) g w.count w.written → Nearer g r w out (length (left_of w 2) + 2) (Unit {0})

-- ---- the start

-- the program begins, with nothing read and nothing written
pub record Starting (g : Files) (w : World) : Type 0 where
  pub unread : Unread false g w
  pub unwritten : w.written ≡ []

-- the first state
pub record Opens (r : Machine) : Type 0 where
  pub stage_is : r.stage ≡ Stage.Counting
  pub reading-is : judging.Begins false r.held.judging
