-- The files and arguments that the program is given, what it is to print, and what is known of a run on its way.
use Rattle.std.specs.Prelude.{ℕ, ◌≤◌, ◌≡◌, true, List, [], ◌∷◌, ◌++◌, length}
use Rattle.rules.specs.declared.answers.Refusal.{Refusal}
use Rattle.rules.specs.declared.run.Inputs.{Inputs}
use Rattle.rules.specs.declared.run.Run.{Run}
use Rattle.rules.specs.declared.station.Station.{Station}
use Rattle.rules.specs.Row.{row_heading}
use Rattle.rules.specs.Run.{printed}
use Rattle.rows.specs.AnswerLine.{refused_line}
use Rattle.tally.specs.Tally.{no_bytes, tallied_of}
use Rattle.sheet_stages.specs.ToCome.{most_place}
use Rattle.run_phases.specs.declared.state.Simulation.{Simulation}
use Rattle.run_texts.specs.Rows.{rows_with, set_texts}
use Rattle.run_texts.specs.Text.{to_print}
use Rattle.run_texts.specs.Coming.{Comes, is_before_sets}
use Rattle.exchange.specs.Events.{Begins}
use Rattle.judging.specs.Holds.{Files}

-- the files as the passes read them, and the argument SECONDS
pub record Given : Type 0 where
  pub station : List ℕ
  -- the sample file in the first pass, and in the second
  pub samples : List ℕ
  pub again : List ℕ
  pub asked : List ℕ
  -- "fewer than 2^64 bytes"
  pub small : length samples ≤ most_place

abbrev pub files_of : Given → Files
files_of g = record { station = g.station; samples = g.samples; later = g.again ∷ []; small = g.small }

-- what `run STATION SAMPLES SECONDS` prints
abbrev pub text : Given → List ℕ
text g = printed g.station g.samples g.asked

-- THE CALL: with STATION, SAMPLES and SECONDS, or with these and the word `-3` that bin/run adds
pub data RightCall (count : ℕ) (word : List ℕ) : Type 0 where
  plain : count ≡ 4 → RightCall count word
  told : count ≡ 5 → word ≡ 45 ∷ 51 ∷ [] → RightCall count word

-- with so many arguments, the program's own name among them, and whether the word is among them
pub data Called (count : ℕ) : Type 0 where
  plain : count ≡ 4 → Called count
  told : count ≡ 5 → Called count

-- both passes came to the same tally
abbrev pub Agreed : Given → Type 0
Agreed g = tallied_of no_bytes g.again ≡ tallied_of no_bytes g.samples

-- ---- the run that is under way

-- with `rest` left of the sample file: what is done, and then what is still to be printed
pub record Goes (g : Given) (s : Simulation) (rest done : List ℕ) : Type 0 where
  pub inputs : List Inputs
  pub come : Comes s rest inputs
  pub text-is : done ++ to_print s inputs ≡ text g

-- ---- whatever the second pass reads: heading, rows and sets' lines of some inputs, one for each second asked

pub record OfSome (s : Simulation) (done : List ℕ) : Type 0 where
  pub station : Station
  pub run : Run
  pub worked : List Inputs
  pub rows : (xs : List Inputs) → length xs ≡ s.course.left → row_heading ++ rows_with station (worked ++ xs) run ≡ done ++ to_print s xs
  pub early : is_before_sets s.phase ≡ true

-- what is written is followed at least by the sets' heading and every set's line
pub record SetsToCome (done : List ℕ) : Type 0 where
  pub station : Station
  pub run : Run
  pub inputs : List Inputs
  pub later : List ℕ
  pub at : Station
  pub last : Run
  pub is : row_heading ++ rows_with station inputs run ≡ done ++ (later ++ set_texts at last)

-- THE SETS' LINES: nothing is written, or how a refusal's line begins, or every set's line is still to come, or both passes' tallies agreed
pub data Sets (g : Given) (done : List ℕ) : Type 0 where
  nothing : done ≡ [] → Sets g done
  refusal : (r : Refusal) → text g ≡ refused_line r → Begins (text g) done → Sets g done
  unshown : SetsToCome done → Sets g done
  agreed : Agreed g → Sets g done
