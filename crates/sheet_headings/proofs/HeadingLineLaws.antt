-- A heading line, heading by heading, each from where it starts. Assumes nothing.
use Rattle.std.specs.Prelude.{if◌then◌else◌, Ok, Err, Result}
use Prim.Native.Nat.{ℕ, ◌+◌, ◌≤◌, ◌<◌}
use mathlib.Core.Path.{◌≡◌, refl, sym, ap, ◌∙◌}
use mathlib.Core.List.{List, [], ◌∷◌}
use native.Mathlib.Omega.{arith}
use native.Mathlib.Decide.{dec_lt}
use native.Mathlib.Nat.{zero-add}
use lib.Dec.{ltb}
use lib.ListN.{length, drop}
use borrow.Author.Tests.{lt-ltb, le-ltb, le-leb, lt-leb, eq-eqb, ne_eqb}
use Rattle.rules.specs.declared.answers.Refusal.{Refusal}
use Rattle.rules.specs.Bytes.{bytes, comma, same, parts}
use Rattle.rules.specs.Answers.{refusal_of, Answer, accepted, refused, ◌>>=◌}
use Rattle.rules.specs.Lines.{Line, cells_of}
use Rattle.rules.specs.SampleFile.{sample_sheet, name_of, occurs, headings, heading_line}
use Rattle.sheet_headings.specs.declared.headings.Columns.{Columns}
use Rattle.sheet_headings.specs.Cells.{cell_from}
use Rattle.sheet_headings.specs.Headings.{columns_of, headed_of}
use Rattle.sheet_headings.proofs.CellLaws.{cell-within, cell-last, cell-first}
use Rattle.sheet_headings.proofs.HeadingLaws.{heading-new, headings-end}
use Rattle.sheet_headings.proofs.ColumnsRead.{names, seen, Right, none_read, along, complete, turn-refused, turn-found, one-missing, none-missing}

-- the headings past one that ends at this place
abbrev pub past : List ℕ → ℕ → List (List ℕ)
past text end = if ltb end (length text) then parts comma (drop (end + 1) text) else []

-- the heading that starts at a place, and those past it
parts_from : (text : List ℕ) (at : ℕ) → parts comma (drop at text) ≡ cell_from text at ∷ past text (at + length (cell_from text at))
parts_from text at = go (dec_lt (at + length (cell_from text at)) (length text))
  where
    go : Dec (at + length (cell_from text at) < length text) → parts comma (drop at text) ≡ cell_from text at ∷ past text (at + length (cell_from text at))
    go (yes h) = rw (lt-ltb (at + length (cell_from text at)) (length text) h) (cell-first text at h)
    go (no h) =
        let k : length text ≤ at + length (cell_from text at) = omega (arith, h) in
        rw (le-ltb (at + length (cell_from text at)) (length text) k) (cell-last text at k)

pub heading-within : (text : List ℕ) (at : ℕ) (heading : List ℕ) → heading ≡ cell_from text at → at ≤ length text → at + length heading ≤ length text
heading-within text at heading e h = rw e (cell-within text at h)

-- what the headings past a place come to, after the columns that were read
abbrev pub from_there : Columns → List ℕ → ℕ → Answer (List ℕ)
from_there read text end = headings names (seen read) (past text end) >>= complete

-- the time's heading is not blank
time-some : (h : List ℕ) → name_of names h ≡ 0 → 0 < length h
unfolding sample_sheet name_of same bytes
time-some [] e = omega arith
time-some (x ∷ h) e = omega arith

-- ---- the line's size and the first heading

module _ (size : ℕ) (text : List ℕ) where
  abbrev line : Line
  line = record { size = size; text = text }

  pub too_long : 512 < size → refused 11 1 ≡ heading_line names line
  unfolding heading_line
  too_long h = rw (lt-leb size 512 h)

  module _ (short : size ≤ 512) (first : List ℕ) (e : first ≡ cell_from text 0) (name : ℕ) (q : name ≡ name_of names first) where
    pub not-time : 0 < name → refused 16 1 ≡ heading_line names line
    unfolding heading_line cells_of cell_from
    not-time h = rw (le-leb size 512 short, ← e, ← q, ne_eqb name 0 (λ z. omega (arith, z)))

    first-accepted : name ≤ 0 → heading_line names line ≡ (headings names [] (parts comma text) >>= complete)
    unfolding heading_line cells_of cell_from
    first-accepted h = rw (le-leb size 512 short, ← e, ← q, eq-eqb name 0 (omega arith))

    pub after-time : name ≤ 0 → heading_line names line ≡ from_there none_read text (length first)
    unfolding sample_sheet seen occurs
    after-time h =
        let z : name ≡ 0 = omega arith in
        let p : parts comma text ≡ first ∷ past text (length first) = rw e (simp zero-add at (parts_from text 0)) in
        let n = heading-new names [] first (past text (length first)) (time-some first (sym q ∙ z)) 0 (sym z ∙ q) (omega arith) refl in
        first-accepted h ∙ rw (p, n)

-- ---- one heading more, and the line's end

module _ (text : List ℕ) (read : Columns) (right : Right read) (end : ℕ) where
  module _ (more : end < length text) (heading : List ℕ) (e : heading ≡ cell_from text (end + 1)) where
    past_more : past text end ≡ heading ∷ past text (end + 1 + length heading)
    past_more = rw (lt-ltb end (length text) more, e) (parts_from text (end + 1))

    module _ (headed : Result Columns Refusal) (is : headed_of headed ≡ (headings names (columns_of read) (heading ∷ []) >>= along)) where
      pub refused-there : (refusal : Refusal) → headed ≡ Err refusal → refusal_of refusal ≡ from_there read text end
      refused-there refusal h =
          let t = turn-refused read right heading (past text (end + 1 + length heading)) _ _ (sym (ap headed_of h) ∙ is) in
          sym (rw (past_more, t))

      pub found-there : (next : Columns) → headed ≡ Ok next → Right next × (from_there read text end ≡ from_there next text (end + 1 + length heading))
      found-there next h =
          let t = turn-found read right heading (past text (end + 1 + length heading)) next (sym (ap headed_of h) ∙ is) in
          (t.0, rw (past_more, t.1))

  module _ (ended : length text ≤ end) where
    pub missing-there : read.second ≡ 0 → refused 15 1 ≡ from_there read text end
    missing-there h = rw (le-ltb end (length text) ended, headings-end) (one-missing read right h)

    pub complete-there : (read.second ≡ 0 → ⊥) → accepted (columns_of read) ≡ from_there read text end
    complete-there h = rw (le-ltb end (length text) ended, headings-end) (none-missing read right h)
