-- Document 01, "The sample file", beside its edges: lines and their ends, headings, cells and rows, each refusal with its line, and their
-- order. By computation. Assumes nothing.
use Prim.Native.Nat.{ℕ}
use Prim.Native.String as S
use mathlib.Core.Path.{◌≡◌, refl}
use mathlib.Core.List.{List, [], ◌∷◌, ◌++◌}
use lib.ListN.{replicate}
use Rattle.rules.specs.declared.samples.Sample.{Sample}
use Rattle.rules.specs.Numbers
use Rattle.rules.specs.Bytes
use Rattle.rules.specs.Bytes.{bytes}
use Rattle.rules.specs.Answers.{Answer, accepted, refused}
use Rattle.rules.specs.Lines
use Rattle.rules.specs.SampleFile
use Rattle.rules.specs.SampleFile.{sample_file, before_all, sample_at}
use Rattle.rules.specs.Cases.{Case, ◌shows◌}
use Rattle.rules.proofs.EdgeRecords.{refuses, given, said}

-- ---- what a file shows: time, load, solar and sheddable load of each row, or its refusal

abbrev sample_numbers : Sample → List ℕ
sample_numbers x = x.at ∷ x.load ∷ x.solar ∷ x.sheddable ∷ []

abbrev row_numbers : List Sample → List ℕ
row_numbers [] = []
row_numbers (x ∷ rows) = sample_numbers x ++ row_numbers rows

abbrev shown : Answer (List Sample) → List ℕ
shown (accepted rows) = row_numbers rows
shown (refused number place) = refuses number place

abbrev file : S.String → List ℕ
file s = shown (sample_file (bytes s))

abbrev headed : List ℕ → List ℕ
headed s = shown (sample_file (bytes "t,LoadP,PvAvailP,ShedLoadP\n" ++ s))

-- the rows under the paper's heading line
abbrev rows : S.String → List ℕ
rows s = headed (bytes s)

-- one first row with this load, solar or sheddable load, in kW
abbrev load : S.String → List ℕ
load s = headed (bytes "0," ++ bytes s ++ bytes ",0,0")

abbrev solar : S.String → List ℕ
solar s = headed (bytes "0,0," ++ bytes s ++ bytes ",0")

abbrev sheddable : S.String → List ℕ
sheddable s = headed (bytes "0,50000,0," ++ bytes s)

-- a second row at this time
abbrev time : S.String → List ℕ
time s = headed (bytes "0,1,2,0\n" ++ bytes s ++ bytes ",3,4,0\n")

-- so many letters
abbrev letters : ℕ → List ℕ
letters n = replicate n 65

-- ---- lines

abbrev line_edges : List Case
line_edges =
    -- "at most 512 bytes without the LF": a heading line is 11 before 16, a row 11 before 17
    (shown (sample_file (letters 512)) shows refuses 16 1)
    ∷ (shown (sample_file (letters 513)) shows refuses 11 1)
    ∷ (shown (sample_file (letters 512 ++ bytes "\n")) shows refuses 16 1)
    ∷ (shown (sample_file (letters 513 ++ bytes "\n")) shows refuses 11 1)
    ∷ (headed (letters 512) shows refuses 17 2)
    ∷ (headed (letters 513) shows refuses 11 2)
    ∷ (headed (bytes "0,1,1,1\n" ++ letters 512 ++ bytes "\n") shows refuses 17 3)
    ∷ (headed (bytes "0,1,1,1\n" ++ letters 513 ++ bytes "\n") shows refuses 11 3)
    -- the dropped CR counts, as the LF alone does not
    ∷ (headed (letters 511 ++ bytes "\r\n") shows refuses 17 2)
    ∷ (headed (letters 512 ++ bytes "\r\n") shows refuses 11 2)
    ∷ (headed (letters 512 ++ bytes "\r") shows refuses 11 2)
    -- "A line ends at LF (one CR just before it is dropped)"
    ∷ (file "t,LoadP,PvAvailP,ShedLoadP\r\n0,3,2,1\r\n1,6,5,4\r\n" shows 0 ∷ 3000 ∷ 2000 ∷ 1000 ∷ 1 ∷ 6000 ∷ 5000 ∷ 4000 ∷ [])
    ∷ (rows "0,3,2,1\r\r\n" shows refuses 18 2)
    ∷ (rows "0,3\r,2,1\n" shows refuses 18 2)
    ∷ (rows "0,3,2,1\u{c}\n" shows refuses 18 2)
    -- "or at the end of the file", where a CR is no CR before LF
    ∷ (rows "0,3,2,1" shows 0 ∷ 3000 ∷ 2000 ∷ 1000 ∷ [])
    ∷ (rows "0,3,2,1\r" shows refuses 18 2)
    ∷ (file "t,LoadP,PvAvailP,ShedLoadP\r" shows refuses 13 1)
    -- "A last LF starts no further line."
    ∷ (rows "0,3,2,1\n" shows 0 ∷ 3000 ∷ 2000 ∷ 1000 ∷ [])
    ∷ (rows "0,3,2,1\n\n" shows refuses 17 3)
    ∷ (rows "\n" shows refuses 17 2)
    ∷ (rows "\r\n" shows refuses 17 2)
    -- one line after the other, from the top
    ∷ (headed (bytes "0,3,2,1\n1,x,2,1\n" ++ letters 513) shows refuses 18 3)
    ∷ []

-- ---- the heading line

abbrev heading_edges : List Case
heading_edges =
    -- "first heading not `t` (an empty file too)"
    (file "" shows refuses 16 1)
    ∷ (file "\n" shows refuses 16 1)
    ∷ (file ",t,LoadP,PvAvailP,ShedLoadP\n" shows refuses 16 1)
    ∷ (file "T,LoadP,PvAvailP,ShedLoadP\n" shows refuses 16 1)
    ∷ (file "LoadP,t,PvAvailP,ShedLoadP\n" shows refuses 16 1)
    ∷ (file "tt,LoadP,PvAvailP,ShedLoadP\n" shows refuses 16 1)
    -- "LoadP, PvAvailP, ShedLoadP once each in any order"
    ∷ (file "t,ShedLoadP,LoadP,PvAvailP\n0,1,3,2\n" shows 0 ∷ 3000 ∷ 2000 ∷ 1000 ∷ [])
    ∷ (file "t,PvAvailP,ShedLoadP,LoadP\n0,2,1,3\n" shows 0 ∷ 3000 ∷ 2000 ∷ 1000 ∷ [])
    -- 12: "heading blank"
    ∷ (file "t,,LoadP,PvAvailP,ShedLoadP\n" shows refuses 12 1)
    ∷ (file "t,LoadP,PvAvailP,ShedLoadP,\n" shows refuses 12 1)
    -- 13: "unknown"
    ∷ (file "t,LoadP,PvAvailP,X\n" shows refuses 13 1)
    ∷ (file "t,Load,PvAvailP,ShedLoadP\n" shows refuses 13 1)
    ∷ (file "t,LoadPP,PvAvailP,ShedLoadP\n" shows refuses 13 1)
    ∷ (file "t,LoadP,PvAvailP, ShedLoadP\n" shows refuses 13 1)
    ∷ (file "t,LoadP,PvAvailP,ShedLoadP,X\n" shows refuses 13 1)
    -- 14: "given twice"
    ∷ (file "t,LoadP,LoadP,PvAvailP,ShedLoadP\n" shows refuses 14 1)
    ∷ (file "t,LoadP,PvAvailP,ShedLoadP,ShedLoadP\n" shows refuses 14 1)
    ∷ (file "t,t,LoadP,PvAvailP,ShedLoadP\n" shows refuses 14 1)
    -- 15: "a heading missing"
    ∷ (file "t\n" shows refuses 15 1)
    ∷ (file "t,PvAvailP,ShedLoadP\n" shows refuses 15 1)
    ∷ (file "t,LoadP,ShedLoadP\n" shows refuses 15 1)
    ∷ (file "t,LoadP,PvAvailP\n0,1,1\n" shows refuses 15 1)
    -- "Heading line: 11, 16, left to right 12, 13, 14, then 15."
    ∷ (file "X,,LoadP\n" shows refuses 16 1)
    ∷ (file "t,X,,LoadP,LoadP\n" shows refuses 13 1)
    ∷ (file "t,,X,LoadP,LoadP\n" shows refuses 12 1)
    ∷ (file "t,LoadP,LoadP,,X\n" shows refuses 14 1)
    ∷ (file "t,X,X\n" shows refuses 13 1)
    -- 22: "no row"
    ∷ (file "t,LoadP,PvAvailP,ShedLoadP" shows refuses 22 0)
    ∷ (file "t,LoadP,PvAvailP,ShedLoadP\n" shows refuses 22 0)
    ∷ []

-- ---- cells

abbrev cell_edges : List Case
cell_edges =
    -- "Time: 1 to 9 digits, at most 316,223,999"
    (rows "000000000,3,2,1" shows 0 ∷ 3000 ∷ 2000 ∷ 1000 ∷ [])
    ∷ (rows "0000000000,3,2,1" shows refuses 18 2)
    ∷ (rows ",3,2,1" shows refuses 18 2)
    ∷ (rows "0.0,3,2,1" shows refuses 18 2)
    ∷ (rows "-0,3,2,1" shows refuses 18 2)
    ∷ (time "316223999" shows 0 ∷ 1000 ∷ 2000 ∷ 0 ∷ 316223999 ∷ 3000 ∷ 4000 ∷ 0 ∷ [])
    ∷ (time "316224000" shows refuses 19 3)
    ∷ (time "999999999" shows refuses 19 3)
    ∷ (time "1000000000" shows refuses 18 3)
    -- "Power in kW: 1 to 6 digits, then nothing or a point and 1 to 3 digits"
    ∷ (load "7" shows 0 ∷ 7000 ∷ 0 ∷ 0 ∷ [])
    ∷ (load "1.5" shows 0 ∷ 1500 ∷ 0 ∷ 0 ∷ [])
    ∷ (load "1.25" shows 0 ∷ 1250 ∷ 0 ∷ 0 ∷ [])
    ∷ (load "1.125" shows 0 ∷ 1125 ∷ 0 ∷ 0 ∷ [])
    ∷ (load "1.005" shows 0 ∷ 1005 ∷ 0 ∷ 0 ∷ [])
    ∷ (load "000012.030" shows 0 ∷ 12030 ∷ 0 ∷ 0 ∷ [])
    ∷ (load "0000012" shows refuses 18 2)
    ∷ (load "0000012.5" shows refuses 18 2)
    ∷ (load "1.0000" shows refuses 18 2)
    ∷ (load "1." shows refuses 18 2)
    ∷ (load ".5" shows refuses 18 2)
    ∷ (load "." shows refuses 18 2)
    ∷ (load "1.2.3" shows refuses 18 2)
    ∷ (load "x.5" shows refuses 18 2)
    ∷ (load "5.x" shows refuses 18 2)
    ∷ (load "1x" shows refuses 18 2)
    ∷ (load "/" shows refuses 18 2)
    ∷ (load ":" shows refuses 18 2)
    ∷ (load "9" shows 0 ∷ 9000 ∷ 0 ∷ 0 ∷ [])
    ∷ (load " " shows refuses 18 2)
    -- "No cell may be blank."
    ∷ (load "" shows refuses 18 2)
    ∷ (solar "" shows refuses 18 2)
    ∷ (sheddable "" shows refuses 18 2)
    -- "at most 50,000 kW"
    ∷ (load "50000" shows 0 ∷ 50000000 ∷ 0 ∷ 0 ∷ [])
    ∷ (load "050000.000" shows 0 ∷ 50000000 ∷ 0 ∷ 0 ∷ [])
    ∷ (load "50000.001" shows refuses 19 2)
    ∷ (load "50000.0001" shows refuses 18 2)
    ∷ (load "999999.999" shows refuses 19 2)
    ∷ (solar "50000" shows 0 ∷ 0 ∷ 50000000 ∷ 0 ∷ [])
    ∷ (solar "50000.001" shows refuses 19 2)
    ∷ (sheddable "50000" shows 0 ∷ 50000000 ∷ 0 ∷ 50000000 ∷ [])
    ∷ (sheddable "50000.001" shows refuses 19 2)
    -- 17: "row's cell count differs from the headings", before 18
    ∷ (rows "0,1,1" shows refuses 17 2)
    ∷ (rows "0,1,1,1,1" shows refuses 17 2)
    ∷ (rows "0,1,1,1," shows refuses 17 2)
    ∷ (rows "x,1,1" shows refuses 17 2)
    -- "cells left to right 18 before 19"
    ∷ (rows "0,50000.001,x,0" shows refuses 19 2)
    ∷ (rows "0,x,50000.001,0" shows refuses 18 2)
    ∷ (rows "316224000,x,0,0" shows refuses 19 2)
    ∷ (file "t,ShedLoadP,LoadP,PvAvailP\n0,x,50000.001,0" shows refuses 18 2)
    ∷ (file "t,PvAvailP,LoadP,ShedLoadP\n0,50000.001,x,0" shows refuses 19 2)
    ∷ []

-- ---- rows

-- a row of these numbers
abbrev sample : ℕ → ℕ → ℕ → ℕ → Sample
sample at load solar sheddable = record { at = at; load = load; solar = solar; sheddable = sheddable }

abbrev two_rows : List Sample
two_rows = sample 0 1 2 3 ∷ sample 5 6 7 8 ∷ []

abbrev row_edges : List Case
row_edges =
    -- 20: "sheddable load above load"
    (rows "0,3,2,3" shows 0 ∷ 3000 ∷ 2000 ∷ 3000 ∷ [])
    ∷ (rows "0,3,2,3.001" shows refuses 20 2)
    ∷ (rows "0,3,0,0\n1,3,9,4" shows refuses 20 3)
    -- 21: "first row's time not 0"; "then 20, 21", 18 and 19 before both
    ∷ (rows "1,3,2,1" shows refuses 21 2)
    ∷ (rows "1,3,2,4" shows refuses 20 2)
    ∷ (rows "1,3,2,x" shows refuses 18 2)
    ∷ (rows "1,3,2,1\n0,x,2,1" shows refuses 21 2)
    -- "A later row whose time is not above the last accepted one is skipped"
    ∷ (rows "0,1,0,0\n5,2,0,0\n3,3,0,0\n4,4,0,0\n6,5,0,0" shows 0 ∷ 1000 ∷ 0 ∷ 0 ∷ 5 ∷ 2000 ∷ 0 ∷ 0 ∷ 6 ∷ 5000 ∷ 0 ∷ 0 ∷ [])
    ∷ (rows "0,1,0,0\n0,2,0,0\n1,3,0,0\n1,4,0,0" shows 0 ∷ 1000 ∷ 0 ∷ 0 ∷ 1 ∷ 3000 ∷ 0 ∷ 0 ∷ [])
    -- "after its checks"
    ∷ (rows "0,1,0,0\n5,2,0,0\n3,x,0,0" shows refuses 18 4)
    ∷ (rows "0,1,0,0\n5,2,0,0\n3,1,0,2" shows refuses 20 4)
    ∷ (rows "0,1,0,0\n5,2,0,0\n3,1,0" shows refuses 17 4)
    -- "A row holds until the next."
    ∷ (sample_numbers (sample_at two_rows 0) shows 0 ∷ 1 ∷ 2 ∷ 3 ∷ [])
    ∷ (sample_numbers (sample_at two_rows 4) shows 0 ∷ 1 ∷ 2 ∷ 3 ∷ [])
    ∷ (sample_numbers (sample_at two_rows 5) shows 5 ∷ 6 ∷ 7 ∷ 8 ∷ [])
    ∷ (sample_numbers (sample_at two_rows 9) shows 5 ∷ 6 ∷ 7 ∷ 8 ∷ [])
    -- before any row there is no load and no solar
    ∷ (sample_numbers before_all shows 0 ∷ 0 ∷ 0 ∷ 0 ∷ [])
    ∷ []

abbrev sheet_cases : List Case
sheet_cases = line_edges ++ heading_edges ++ cell_edges ++ row_edges

pub sheet-edges : given sheet_cases ≡ said sheet_cases
unfolding Numbers.all_to Numbers.tab Bytes.bytes Bytes.same Bytes.all_digits Bytes.digits Bytes.value_from Bytes.parts Lines.without_cr Lines.lines_of Lines.lines Lines.cells_of SampleFile.sample_sheet SampleFile.name_of SampleFile.occurs SampleFile.headings SampleFile.heading_line SampleFile.time_cell SampleFile.power_form SampleFile.power_value SampleFile.power_cell SampleFile.cell SampleFile.cell_values SampleFile.value_under SampleFile.row_values SampleFile.later_rows SampleFile.rows_after SampleFile.sheet_lines SampleFile.sample_file SampleFile.holding SampleFile.sample_at
sheet-edges = refl
