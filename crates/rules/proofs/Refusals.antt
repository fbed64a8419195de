-- The refusal numbers are the paper's: each fault of the code's enum has its own, those of the table and no other, and the
-- number with the place tells the fault. Assumes nothing.
use Rattle.std.specs.Prelude.{if◌then◌else◌}
use Prim.Native.Nat.{ℕ, ◌-◌}
use mathlib.Core.Path.{◌≡◌, refl, sym, ap, ◌∙◌}
use mathlib.Core.List.{List, [], ◌∷◌, map}
use lib.Dec.{leb}
use lib.ListN.{get_or}
use Rattle.rules.specs.declared.answers.Refusal.{Refusal}
use Rattle.rules.specs.declared.answers.Refusal.TheVariants.{StationSize, ContentsEntry, ContentsSize, ControlValue, BatteryValue, SetNumber, SetPairs, ConfigurationMask, LineLength, HeadingBlank, HeadingUnknown, HeadingTwice, HeadingMissing, FirstHeading, CellCount, Malformed, OverLimit, SheddableAboveLoad, FirstTime, NoRow, RunEnded, RunRecord, StationRecord, RowBuffer}
use Rattle.rules.specs.Answers.{Answer, accepted, refused, refusal, refusal_of}

-- a fault as an answer
abbrev pub answer_of : Refusal → Answer (Unit {0})
answer_of r = refusal_of r

-- the faults in the order of the table, each that has a place at p
abbrev faults : ℕ → List Refusal
faults p =
    StationSize
    ∷ ContentsEntry p
    ∷ ContentsSize
    ∷ ControlValue
    ∷ BatteryValue
    ∷ SetNumber p
    ∷ SetPairs p
    ∷ ConfigurationMask p
    ∷ LineLength p
    ∷ HeadingBlank p
    ∷ HeadingUnknown p
    ∷ HeadingTwice p
    ∷ HeadingMissing p
    ∷ FirstHeading p
    ∷ CellCount p
    ∷ Malformed p
    ∷ OverLimit p
    ∷ SheddableAboveLoad p
    ∷ FirstTime p
    ∷ NoRow
    ∷ RunEnded
    ∷ RunRecord
    ∷ StationRecord
    ∷ RowBuffer
    ∷ []

-- "1 to 8, 11 to 26", each with its place
pub as-in-the-table : (p : ℕ) → map (λ (r : Refusal). refusal (answer_of r)) (faults p)
    ≡ (1 ∷ 0 ∷ [])
    ∷ (2 ∷ p ∷ [])
    ∷ (3 ∷ 0 ∷ [])
    ∷ (4 ∷ 0 ∷ [])
    ∷ (5 ∷ 0 ∷ [])
    ∷ (6 ∷ p ∷ [])
    ∷ (7 ∷ p ∷ [])
    ∷ (8 ∷ p ∷ [])
    ∷ (11 ∷ p ∷ [])
    ∷ (12 ∷ p ∷ [])
    ∷ (13 ∷ p ∷ [])
    ∷ (14 ∷ p ∷ [])
    ∷ (15 ∷ p ∷ [])
    ∷ (16 ∷ p ∷ [])
    ∷ (17 ∷ p ∷ [])
    ∷ (18 ∷ p ∷ [])
    ∷ (19 ∷ p ∷ [])
    ∷ (20 ∷ p ∷ [])
    ∷ (21 ∷ p ∷ [])
    ∷ (22 ∷ 0 ∷ [])
    ∷ (23 ∷ 0 ∷ [])
    ∷ (24 ∷ 0 ∷ [])
    ∷ (25 ∷ 0 ∷ [])
    ∷ (26 ∷ 0 ∷ [])
    ∷ []
as-in-the-table p = refl

-- the fault at the row of the table that a number has, rows counted from 0
abbrev row_of : ℕ → ℕ
row_of n = if leb n 8 then n - 1 else n - 3

abbrev fault_of : Answer (Unit {0}) → Refusal
fault_of (accepted a) = StationSize
fault_of (refused n p) = get_or (faults p) (row_of n) StationSize

told : (r : Refusal) → fault_of (answer_of r) ≡ r
told StationSize = refl
told (ContentsEntry p) = refl
told ContentsSize = refl
told ControlValue = refl
told BatteryValue = refl
told (SetNumber p) = refl
told (SetPairs p) = refl
told (ConfigurationMask p) = refl
told (LineLength p) = refl
told (HeadingBlank p) = refl
told (HeadingUnknown p) = refl
told (HeadingTwice p) = refl
told (HeadingMissing p) = refl
told (FirstHeading p) = refl
told (CellCount p) = refl
told (Malformed p) = refl
told (OverLimit p) = refl
told (SheddableAboveLoad p) = refl
told (FirstTime p) = refl
told NoRow = refl
told RunEnded = refl
told RunRecord = refl
told StationRecord = refl
told RowBuffer = refl

-- "the number that document 01 gives for that fault and for no other": number and place tell the fault
pub number-and-place-tell : (r q : Refusal) → answer_of r ≡ answer_of q → r ≡ q
number-and-place-tell r q h = sym (told r) ∙ ap fault_of h ∙ told q
