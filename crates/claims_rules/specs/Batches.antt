-- The claim of lists in which calls of one second and calls of many seconds are mixed: each is a batch, of one second, whose row is bytes,
-- or of many, whose rows are numbers.
-- Definitions only; proofs/Batches.antt has the theorem, of batches that each owe what the rules say.
use Rattle.std.specs.Prelude.{ℕ, zero, suc, ◌+◌, ◌*◌, ◌/◌, ◌≤◌, ◌<◌, ◌≡◌, List, [], ◌∷◌, ◌++◌, map, length, take, drop}
use Rattle.rules.specs.declared.answers.Ended.{Ended}
use Rattle.rules.specs.declared.answers.Ended.TheVariants.{AllWorked, NoRoom, BeforeRefused}
use Rattle.rules.specs.declared.station.Station.{Station}
use Rattle.rules.specs.declared.run.Inputs.{Inputs}
use Rattle.rules.specs.declared.run.Run.{Run}
use Rattle.rules.specs.declared.run.Worked as answer
use Rattle.rules.specs.Answers.{Answer}
use Rattle.rules.specs.RunRecord.{start_record}
use Rattle.rules.specs.Second.{record_handed}
use Rattle.rules.specs.Seconds.{inputs_each, numbers_of, WorkedSeconds, came_on}
use Rattle.rules.specs.Calls.{Call}
use Rattle.claims_rules.specs.Shown.{Worked, in_columns}
use Rattle.claims_rules.specs.Claim.{told, worked_in, Asked, asked, second_by, row_by, counted_by, OverRows, LastRecord, Kept}

-- of a call: of one second, or of many
pub data OneOrMany (One Many : Type 0) : Type 0 where
  one : One → OneOrMany One Many
  many : Many → OneOrMany One Many

-- what a caller sees of many seconds: the numbers handed in, three for each second, and the rows lent; what the call answers; and the rows
-- as they are left
pub record ManyCall : Type 0 where
  pub inputs : List ℕ
  pub lent : List ℕ
  pub worked : answer.Worked
  pub left : List ℕ

abbrev pub Batch : Type 0
Batch = OneOrMany Call ManyCall

-- the record handed back
abbrev pub run_after : Batch → Run
run_after (one c) = c.handed.run
run_after (many m) = m.worked.run

-- ---- as a caller is told: of one second its row's bytes or its refusal; of many how many were worked, their rows' numbers, and why they
-- are no more

pub record ManyAnswer : Type 0 where
  pub seconds : ℕ
  pub numbers : List ℕ
  pub ended : Ended

abbrev pub BatchAnswer : Type 0
BatchAnswer = OneOrMany (Answer (List ℕ)) ManyAnswer

abbrev pub batch_answer : Batch → BatchAnswer
batch_answer (one c) = one (told c)
batch_answer (many m) =
    many (record { seconds = m.worked.seconds; numbers = take (13 * m.worked.seconds) m.left; ended = m.worked.ended })

-- ---- what the rules give, by station, inputs and lent lengths alone

pub record AskedMany : Type 0 where
  pub inputs : List ℕ
  pub room : ℕ

abbrev pub AskedBatch : Type 0
AskedBatch = OneOrMany Asked AskedMany

abbrev pub asked_batch : Batch → AskedBatch
asked_batch (one c) = one (asked c)
asked_batch (many m) = many (record { inputs = m.inputs; room = length m.lent })

-- seconds of the rules one after the other, as long as there is room for a row: 24 and 25 end none of them
unfoldable pub came_by : Station → Run → List Inputs → ℕ → WorkedSeconds
came_by st r [] room = record { run = r; rows = []; ended = AllWorked }
came_by st r (x ∷ xs) zero = record { run = r; rows = []; ended = NoRoom }
came_by st r (x ∷ xs) (suc room) =
    came_on r (second_by st r (record { inputs = x; room = 256 })) (λ s. came_by st s.run xs room)

-- a row has thirteen numbers
abbrev pub came_asked : Station → Run → AskedMany → WorkedSeconds
came_asked st r a = came_by st r (inputs_each a.inputs) (a.room / 13)

abbrev pub answer_came : WorkedSeconds → ManyAnswer
answer_came c = record { seconds = length c.rows; numbers = numbers_of c.rows; ended = c.ended }

abbrev pub ruled_answer : Station → Run → AskedBatch → BatchAnswer
ruled_answer st r (one a) = one (row_by (second_by st r a))
ruled_answer st r (many a) = many (answer_came (came_asked st r a))

abbrev pub ruled_run : Station → Run → AskedBatch → Run
ruled_run st r (one a) = record_handed r (second_by st r a)
ruled_run st r (many a) = (came_asked st r a).run

unfoldable pub ruled_batches_from : Station → Run → List AskedBatch → List BatchAnswer
ruled_batches_from st r [] = []
ruled_batches_from st r (a ∷ more) = ruled_answer st r a ∷ ruled_batches_from st (ruled_run st r a) more

unfoldable pub ruled_batches : Station → List AskedBatch → List BatchAnswer
ruled_batches st asked = ruled_batches_from st (start_record st) asked

-- ---- the rows

-- the first n of some seconds, each with thirteen numbers, under the row's headings
unfoldable pub rows_each : List Inputs → ℕ → List ℕ → List Worked
rows_each xs zero numbers = []
rows_each [] (suc n) numbers = []
rows_each (x ∷ xs) (suc n) numbers = record { inputs = x; row = in_columns (take 13 numbers) } ∷ rows_each xs n (drop 13 numbers)

-- of one second read back from its bytes, if it was accepted; of many from the numbers of the rows left
abbrev pub rows_in : Batch → List Worked
rows_in (one c) = worked_in (c ∷ [])
rows_in (many m) = rows_each (inputs_each m.inputs) m.worked.seconds m.left

unfoldable pub rows_in_batches : List Batch → List Worked
rows_in_batches [] = []
rows_in_batches (b ∷ bs) = rows_in b ++ rows_in_batches bs

-- ---- the claim

-- why no more are worked, by their number, how many are asked and how many numbers are lent: there is none; the next one's row has no
-- place; or it has, and the rules refuse the second
abbrev pub EndedAt : Ended → ℕ → ℕ → ℕ → Type 0
EndedAt AllWorked seconds asked places = seconds ≡ asked
EndedAt NoRoom seconds asked places = (seconds < asked) × (places < 13 * (seconds + 1))
EndedAt BeforeRefused seconds asked places = (seconds < asked) × (13 * (seconds + 1) ≤ places)

-- where none is worked, record and rows are as they were; else the seconds done rise by one for each, and the numbers past the rows stay
pub record KeptMany (r : Run) (m : ManyCall) : Type 0 where
  pub none-keeps : m.worked.seconds ≡ 0 → (m.worked.run ≡ r) × (m.left ≡ m.lent)
  pub seconds-moved : m.worked.run.done ≡ r.done + m.worked.seconds
  pub rest-stays : m.left ≡ take (13 * m.worked.seconds) m.left ++ drop (13 * m.worked.seconds) m.lent
  pub rows_fit : 13 * m.worked.seconds ≤ length m.lent
  pub length-stays : length m.left ≡ length m.lent
  pub as-ended : EndedAt m.worked.ended m.worked.seconds (length (inputs_each m.inputs)) (length m.lent)

-- a call of one second as in Claim: "A refused call hands the run's record back unchanged and writes nothing to a lent buffer"
abbrev pub KeptBatch : Run → Batch → Type 0
KeptBatch r (one c) = Kept r c
KeptBatch r (many m) = KeptMany r m

-- "Each gets the record last handed back", whichever of the two handed it back
pub data ChainedBatches (One : Run → Batch → Type 0) : Run → List Batch → Run → Type 0 where
  none : {r : Run} → ChainedBatches One r [] r
  more : {r last : Run} {b : Batch} {bs : List Batch} → One r b → ChainedBatches One (run_after b) bs last → ChainedBatches One r (b ∷ bs) last

pub record ClaimBatches (st : Station) (first : Run) (batches : List Batch) (last : Run) : Type 0 where
  pub as-ruled : map batch_answer batches ≡ ruled_batches st (map asked_batch batches)
  pub kept : ChainedBatches KeptBatch first batches last
  pub over-rows : OverRows st (rows_in_batches batches) last.store (counted_by last)
  pub last-record : LastRecord st (rows_in_batches batches) last
