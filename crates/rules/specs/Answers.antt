-- Document 01, "Refusal numbers": "Answer: the number and its place from 1".
-- An answer of a definition is a value, or the number and the place of a refusal. The code answers with a value or a
-- `Refusal`, which is read here, and nowhere else: each case with the paper's number and its place.
use Rattle.std.specs.Prelude.{ℕ, Bool, true, false, List, [], ◌∷◌, Ok, Err, Result}
use Rattle.rules.specs.declared.answers.Refusal.{Refusal}
use Rattle.rules.specs.declared.answers.Refusal.TheVariants.{StationSize, ContentsEntry, ContentsSize, ControlValue, BatteryValue, SetNumber, SetPairs, ConfigurationMask, LineLength, HeadingBlank, HeadingUnknown, HeadingTwice, HeadingMissing, FirstHeading, CellCount, Malformed, OverLimit, SheddableAboveLoad, FirstTime, NoRow, RunEnded, RunRecord, StationRecord, RowBuffer}

pub data Answer (A : Type 0) : Type 0 where
  accepted : A → Answer A
  refused : ℕ → ℕ → Answer A

-- `need test number place`: the checks go on where the test passes, and end with this refusal where it fails
abbrev pub need : Bool → ℕ → ℕ → Answer (Unit {0})
need true number place = accepted tt
need false number place = refused number place

-- one check after another, as `do` writes them: the first refusal is the answer
infixl 1 ◌>>=◌
abbrev pub ◌>>=◌ : {A B : Type 0} → Answer A → (A → Answer B) → Answer B
accepted a >>= f = f a
refused number place >>= f = refused number place

infixl 1 ◌>>◌
abbrev pub ◌>>◌ : {A B : Type 0} → Answer A → Answer B → Answer B
accepted a >> b = b
refused number place >> b = refused number place

abbrev pub is_accepted : {A : Type 0} → Answer A → Bool
is_accepted (accepted a) = true
is_accepted (refused number place) = false

-- an answer without its value: whether it is accepted, or the refusal
abbrev pub judged : {A : Type 0} → Answer A → Answer (Unit {0})
judged (accepted a) = accepted tt
judged (refused number place) = refused number place

-- the value of an answer, and the one named for a refusal
abbrev pub value_or : {A : Type 0} → A → Answer A → A
value_or z (accepted a) = a
value_or z (refused number place) = z

-- the number and the place of a refusal, in this order, and none where there is no refusal
abbrev pub refusal : {A : Type 0} → Answer A → List ℕ
refusal (accepted a) = []
refusal (refused number place) = number ∷ place ∷ []

-- ---- the code's enums

-- "Answer: the number and its place from 1: the first wrong contents entry for 2, the set for 6 and 7, the configuration
-- for 8, the line for 11 to 21; 0 for the rest"
abbrev pub number_and_place : Refusal → ℕ × ℕ
number_and_place StationSize = (1, 0)
number_and_place (ContentsEntry entry) = (2, entry)
number_and_place ContentsSize = (3, 0)
number_and_place ControlValue = (4, 0)
number_and_place BatteryValue = (5, 0)
number_and_place (SetNumber set) = (6, set)
number_and_place (SetPairs set) = (7, set)
number_and_place (ConfigurationMask configuration) = (8, configuration)
number_and_place (LineLength line) = (11, line)
number_and_place (HeadingBlank line) = (12, line)
number_and_place (HeadingUnknown line) = (13, line)
number_and_place (HeadingTwice line) = (14, line)
number_and_place (HeadingMissing line) = (15, line)
number_and_place (FirstHeading line) = (16, line)
number_and_place (CellCount line) = (17, line)
number_and_place (Malformed line) = (18, line)
number_and_place (OverLimit line) = (19, line)
number_and_place (SheddableAboveLoad line) = (20, line)
number_and_place (FirstTime line) = (21, line)
number_and_place NoRow = (22, 0)
number_and_place RunEnded = (23, 0)
number_and_place RunRecord = (24, 0)
number_and_place StationRecord = (25, 0)
number_and_place RowBuffer = (26, 0)

abbrev pub refusal_of : {A : Type 0} → Refusal → Answer A
refusal_of r = refused (number_and_place r).0 (number_and_place r).1

-- an answer in code: its value, or the paper's number and place of its refusal
abbrev pub result_of : {A : Type 0} → Result A Refusal → Answer A
result_of (Ok a) = accepted a
result_of (Err r) = refusal_of r
