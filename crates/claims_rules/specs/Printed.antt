-- What a clerk holds in hand: the text that the run program prints for two accepted files and accepted SECONDS. Its rows are the lines
-- after the heading, one for each second, and its sets' lines follow; demand 3 is said of the numbers on them.
-- Definitions only; proofs/Printed.antt has the theorem.
use Rattle.std.specs.Prelude.{ℕ, zero, suc, ◌+◌, ◌≤◌, ◌<◌, ◌≡◌, List, [], ◌∷◌, ◌++◌, map, length, take, drop, get_or}
use Rattle.rules.specs.declared.station.Station.{Station}
use Rattle.rules.specs.declared.samples.Sample.{Sample}
use Rattle.rules.specs.declared.run.Inputs.{Inputs}
use Rattle.rules.specs.declared.run.Run.{Run}
use Rattle.rules.specs.Bytes.{LF, parts}
use Rattle.rules.specs.Answers.{Answer, accepted, refused}
use Rattle.rules.specs.SampleFile.{sample_at}
use Rattle.rules.specs.Row.{row_heading, set_heading, set_lines}
use Rattle.rules.specs.Run.{inputs_of}
use Rattle.rules.specs.Calls.{Call}
use Rattle.claims_rules.specs.Shown.{numbers_in, Worked, rows_of}
use Rattle.claims_rules.specs.Claim.{told, Counted, OverRows}

-- the lines of a text, and what stands after its last LF
abbrev pub lines_of : List ℕ → List (List ℕ)
lines_of text = parts LF text

abbrev pub line_of : List ℕ → ℕ → List ℕ
line_of text i = get_or (lines_of text) i []

-- what the sample file hands to n seconds from second t on: "A row holds until the next."
unfoldable pub inputs_from : List Sample → ℕ → ℕ → List Inputs
inputs_from samples t zero = []
inputs_from samples t (suc n) = inputs_of (sample_at samples t) ∷ inputs_from samples (suc t) n

-- the rows of n seconds: the lines after the first
unfoldable pub printed_rows : List Sample → ℕ → List ℕ → List Worked
printed_rows samples n text = rows_of (inputs_from samples 0 n) n (drop 1 (lines_of text))

-- the last row's store, and `store` where there is no row
unfoldable pub store_after : ℕ → List Worked → ℕ
store_after store [] = store
store_after store (s ∷ ss) = store_after s.row.store ss

-- the numbers of the set at place i, under "set,run,starts,stops,energy,fuel"
abbrev pub set_numbers : ℕ → List ℕ → ℕ → List ℕ
set_numbers n text i = numbers_in (line_of text (n + 2 + i))

abbrev pub counts_printed : ℕ → List ℕ → ℕ → Counted
counts_printed n text i = record { run = get_or (set_numbers n text i) 1 0; energy = get_or (set_numbers n text i) 4 0; fuel = get_or (set_numbers n text i) 5 0 }

pub record Printed (st : Station) (samples : List Sample) (n : ℕ) (text : List ℕ) : Type 0 where
  -- the heading, n rows, the sets' heading, a line for each set, and nothing after its LF
  pub line-count : length (lines_of text) ≡ n + st.setcount + 3
  pub heading : line_of text 0 ++ (LF ∷ []) ≡ row_heading
  pub set-heading : line_of text (n + 1) ++ (LF ∷ []) ≡ set_heading
  pub set-numbered : (i : ℕ) → i < st.setcount → get_or (set_numbers n text i) 0 0 ≡ suc i
  pub nothing-after : line_of text (n + 2 + st.setcount) ≡ []
  -- demand 3, of the text's own numbers
  pub over-rows : OverRows st (printed_rows samples n text) (store_after st.battery.start (printed_rows samples n text)) (counts_printed n text)

-- ---- and the text is that of a list of calls

-- the bytes of the rows that calls wrote, in their order
abbrev pub text_by : Answer (List ℕ) → List ℕ → List ℕ
text_by (accepted text) later = text ++ later
text_by (refused number place) later = later

unfoldable pub row_bytes : List Call → List ℕ
row_bytes [] = []
row_bytes (c ∷ cs) = text_by (told c) (row_bytes cs)

-- the heading, the rows that the calls wrote, and the sets' lines of the record last handed back
abbrev pub text_of : Station → List Call → Run → List ℕ
text_of st calls last = row_heading ++ (row_bytes calls ++ (set_heading ++ set_lines 0 (take st.setcount last.sets)))

abbrev pub Roomy : List Call → Type 0
Roomy [] = Unit {0}
Roomy (c ∷ cs) = (256 ≤ length c.lent) × Roomy cs

-- calls of the seconds of a sample file, each with room for a row
pub record CallsOf (samples : List Sample) (n : ℕ) (calls : List Call) : Type 0 where
  pub as-sampled : map (λ c. c.inputs) calls ≡ inputs_from samples 0 n
  pub roomy : Roomy calls
