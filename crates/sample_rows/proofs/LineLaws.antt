-- The lines of a file that comes in pieces, and the bytes of a line that are put together. Assumes nothing.
use Rattle.std.specs.Prelude.{if◌then◌else◌, Ok, Err, Some, None, Result, Option, is_some}
use Prim.Native.Nat.{ℕ, zero, suc, ◌+◌, ◌-◌, ◌≤◌, ◌<◌, min}
use mathlib.Core.Path.{◌≡◌, refl, sym, ap, ◌∙◌}
use mathlib.Core.Bool.{Bool, true, false}
use mathlib.Core.List.{List, [], ◌∷◌, ◌++◌, map, append_assoc, append-nil}
use native.Mathlib.Omega.{arith}
use native.Mathlib.Decide.{dec_lt}
use lib.Dec.{eqb}
use lib.ListN.{length, take, drop, get_or, length-append, length-take, length-drop, drop_of_length-le}
use lib.Seq.{take_all, take-length, drop-length, drop-drop, take-append-le, drop-append-le}
use borrow.Author.Tests.{eq-eqb, ne_eqb}
use Rattle.byte_search.specs.Bytes.{index_after, index_of, slice}
use Rattle.rules.specs.declared.samples.Sample.{Sample}
use Rattle.rules.specs.declared.answers.Refusal.{Refusal}
use Rattle.rules.specs.Answers.{Answer, accepted, refused, refusal_of, result_of, ◌>>=◌}
use Rattle.rules.specs.SampleFile.{sample_sheet, sheet_lines, sample_of, sample_file}
use Rattle.rules.specs.Bytes.{LF, CR, in_front, parts}
use Rattle.rules.specs.Lines.{Line, without_cr, ended, at_end, lines_of, lines}
use Rattle.sheet_stages.specs.declared.stage.Stage.{Stage}
use Rattle.sheet_stages.specs.ToCome.{most_place, placed, samples_of, answer_from, RowsRead, up_to_refused, to_come, file_rows, row_first, answer_of, end_of}
use Rattle.sample_rows.specs.declared.reader.SampleReader.{SampleReader}
use Rattle.sample_rows.specs.Streamed.{begun_with, lines_after, begun_in, yet_to_come, ending_of}
use Rattle.sheet_headings.specs.declared.headings.Columns.{Columns}
use Rattle.sheet.specs.Rows.{row_in}
use Rattle.usual_rows.specs.Usual.{UsualRight}
use Rattle.rules.proofs.Checks.{not-accepted}
use Rattle.rules.proofs.Tests.{never}
use Rattle.sheet_headings.proofs.PartsAt.{index-le, part-first}
use Rattle.sheet_stages.proofs.UpToRefused.{answer-read}

-- where there is no row
pub no_row : (o : Option Sample) → is_some o ≡ false → o ≡ None
no_row None h = refl
no_row (Some x) h = never (sym h)

-- ---- "one CR just before it is dropped"

pub no_byte : (s : List ℕ) → length s ≡ 0 → s ≡ without_cr s
unfolding without_cr
no_byte [] h = refl
no_byte (x ∷ s) h = absurd (omega arith)

pub cr-dropped : (s : List ℕ) (n : ℕ) → length s ≡ suc n → get_or s n 0 ≡ CR → take n s ≡ without_cr s
unfolding without_cr
cr-dropped [] n h e = absurd (omega arith)
cr-dropped (x ∷ []) zero h e = rw (eq-eqb x CR e)
cr-dropped (x ∷ []) (suc n) h e = absurd (omega arith)
cr-dropped (x ∷ y ∷ r) zero h e = absurd (omega arith)
cr-dropped (x ∷ y ∷ r) (suc n) h e = ap (λ (l : List ℕ). x ∷ l) (cr-dropped (y ∷ r) n (omega arith) e)

pub no-cr : (s : List ℕ) (n : ℕ) → length s ≡ suc n → (get_or s n 0 ≡ CR → ⊥) → s ≡ without_cr s
unfolding without_cr
no-cr [] n h e = absurd (omega arith)
no-cr (x ∷ []) zero h e = rw (ne_eqb x CR e)
no-cr (x ∷ []) (suc n) h e = absurd (omega arith)
no-cr (x ∷ y ∷ r) zero h e = absurd (omega arith)
no-cr (x ∷ y ∷ r) (suc n) h e = ap (λ (l : List ℕ). x ∷ l) (no-cr (y ∷ r) n (omega arith) e)

-- ---- where the first LF stands in a text that goes on

index-before : (c : ℕ) (s rest : List ℕ) → index_of c s < length s → index_of c (s ++ rest) ≡ index_of c s
unfolding index_of index_after
index-before c [] rest h = absurd (omega arith)
index-before c (x ∷ s) rest h = go (eqb x c) (index-before c s rest) h
  where
    go : (b : Bool) → (index_of c s < length s → index_of c (s ++ rest) ≡ index_of c s) → index_after b (index_of c s) < suc (length s)
        → index_after b (index_of c (s ++ rest)) ≡ index_after b (index_of c s)
    go true ih h = refl
    go false ih h = ap suc (ih (omega arith))

-- nothing is left, so that no LF is
pub none_left : (c : ℕ) → index_of c [] ≡ 0
unfolding index_of
none_left c = refl

-- ---- lines

-- there is a part after any LF, so that the line before it has ended
line-ends : (p : List ℕ) (c : ℕ) (s : List ℕ) → lines_of (p ∷ parts c s) ≡ ended p ∷ lines_of (parts c s)
unfolding lines_of parts
line-ends p c [] = refl
line-ends p c (x ∷ s) = go (eqb x c) (parts c s)
  where
    go : (b : Bool) (ps : List (List ℕ)) → lines_of (p ∷ (if b then [] ∷ ps else in_front x ps)) ≡ ended p ∷ lines_of (if b then [] ∷ ps else in_front x ps)
    go true ps = refl
    go false [] = refl
    go false (q ∷ ps) = refl

-- where no line has begun, the lines are the file's
none-begun : (c : ℕ) (s : List ℕ) → begun_with [] (parts c s) ≡ parts c s
unfolding parts
none-begun c [] = refl
none-begun c (x ∷ s) = go (eqb x c) (parts c s)
  where
    go : (b : Bool) (ps : List (List ℕ)) → begun_with [] (if b then [] ∷ ps else in_front x ps) ≡ (if b then [] ∷ ps else in_front x ps)
    go true ps = refl
    go false [] = refl
    go false (q ∷ ps) = refl

pub lines-begun : (s : List ℕ) → lines_after [] s ≡ lines s
unfolding lines_after lines
lines-begun s = ap lines_of (none-begun LF s)

parts_first : (s rest : List ℕ) → index_of LF s < length s → parts LF (s ++ rest) ≡ take (index_of LF s) s ∷ parts LF (drop (suc (index_of LF s)) s ++ rest)
parts_first s rest h =
    let e = index-before LF s rest h in
    let b : index_of LF (s ++ rest) < length (s ++ rest) = omega (arith, e, length-append s rest) in
    let k : index_of LF s ≤ length s = omega arith in
    part-first LF (s ++ rest) b ∙ rw (e, take-append-le (index_of LF s) s rest, drop-append-le (suc (index_of LF s)) s rest)

-- an LF ends the line that has begun
pub line_first : (begun s rest : List ℕ) → index_of LF s < length s
    → lines_after begun (s ++ rest) ≡ ended (begun ++ take (index_of LF s) s) ∷ lines_after [] (drop (suc (index_of LF s)) s ++ rest)
unfolding lines_after
line_first begun s rest h =
    let left = drop (suc (index_of LF s)) s ++ rest in
    let line = begun ++ take (index_of LF s) s in
    rw (parts_first s rest h) (line-ends line LF left ∙ ap (λ (ps : List (List ℕ)). ended line ∷ lines_of ps) (sym (none-begun LF left)))

-- a byte in front of the parts is one more byte of the line that has begun
begun-front : (begun : List ℕ) (x : ℕ) (ps : List (List ℕ)) → begun_with begun (in_front x ps) ≡ begun_with (begun ++ (x ∷ [])) ps
begun-front begun x [] = refl
begun-front begun x (p ∷ ps) = ap (λ (q : List ℕ). q ∷ ps) (sym (append_assoc begun (x ∷ []) p))

begun_more : (c : ℕ) (begun s rest : List ℕ) → index_of c s ≡ length s → begun_with begun (parts c (s ++ rest)) ≡ begun_with (begun ++ s) (parts c rest)
unfolding parts index_of index_after
begun_more c begun [] rest h = rw (append-nil begun)
begun_more c begun (x ∷ s) rest h = go (eqb x c) (begun_more c (begun ++ (x ∷ [])) s rest) h
  where
    go : (b : Bool) → (index_of c s ≡ length s → begun_with (begun ++ (x ∷ [])) (parts c (s ++ rest)) ≡ begun_with ((begun ++ (x ∷ [])) ++ s) (parts c rest))
        → index_after b (index_of c s) ≡ suc (length s)
        → begun_with begun (if b then [] ∷ parts c (s ++ rest) else in_front x (parts c (s ++ rest))) ≡ begun_with (begun ++ (x ∷ s)) (parts c rest)
    go true ih h = absurd (omega arith)
    go false ih h =
        begun-front begun x (parts c (s ++ rest)) ∙ ih (omega arith)
        ∙ ap (λ (l : List ℕ). begun_with l (parts c rest)) (append_assoc begun (x ∷ []) s)

-- bytes without LF go on with the line that has begun
pub line-goes-on : (begun s rest : List ℕ) → index_of LF s ≡ length s → lines_after begun (s ++ rest) ≡ lines_after (begun ++ s) rest
unfolding lines_after
line-goes-on begun s rest h = ap lines_of (begun_more LF begun s rest h)

-- at the end of the file
pub line-at-end : (begun : List ℕ) → lines_after begun [] ≡ at_end begun
unfolding lines_after lines_of parts
line-at-end begun = ap at_end (append-nil begun)

-- a first line of more than n bytes
abbrev LongFirst : ℕ → List Line → Type 0
LongFirst n all = (l : Line) × (ls : List Line) × (n < l.size) × (all ≡ l ∷ ls)

long-part : (n : ℕ) (p : List ℕ) (ps : List (List ℕ)) → n < length p → LongFirst n (lines_of (p ∷ ps))
unfolding lines_of
long-part n [] ps h = absurd (omega arith)
long-part n (x ∷ p) [] h = (record { size = length (x ∷ p); text = x ∷ p }, [], h, refl)
long-part n (x ∷ p) (q ∷ r) h = (ended (x ∷ p), lines_of (q ∷ r), h, refl)

long-begun : (n : ℕ) (begun : List ℕ) (ps : List (List ℕ)) → n < length begun → LongFirst n (lines_of (begun_with begun ps))
long-begun n begun [] h = long-part n begun [] h
long-begun n begun (p ∷ ps) h = long-part n (begun ++ p) ps (omega (arith, length-append begun p))

-- however a line goes on that has too many bytes, its answer is the same
pub long-line : (stage after : Stage) (begun rest : List ℕ) (ls : List Line)
    → ((l : Line) (ls rest : List Line) → 512 < l.size → to_come stage (l ∷ ls) ≡ to_come after rest)
    → 512 < length begun → to_come stage (lines_after begun rest) ≡ to_come after ls
unfolding lines_after
long-line stage after begun rest ls same h =
    let t = long-begun 512 begun (parts LF rest) h in
    ap (to_come stage) t.3 ∙ same t.0 t.1 ls t.2

-- ---- a count that is past the end counts to the end

module _ (n : ℕ) (l : List ℕ) where
  take-least : take (min n (length l)) l ≡ take n l
  take-least = go (dec_lt n (length l))
    where
      go : Dec (n < length l) → take (min n (length l)) l ≡ take n l
      go (yes h) = let e : min n (length l) ≡ n = omega arith in rw e
      go (no h) =
          let e : min n (length l) ≡ length l = omega (arith, h) in
          let k : length l ≤ n = omega (arith, h) in
          rw (e, take-length l, take_all n l k)

  pub drop-least : drop (min n (length l)) l ≡ drop n l
  drop-least = go (dec_lt n (length l))
    where
      go : Dec (n < length l) → drop (min n (length l)) l ≡ drop n l
      go (yes h) = let e : min n (length l) ≡ n = omega arith in rw e
      go (no h) =
          let e : min n (length l) ≡ length l = omega (arith, h) in
          let k : length l ≤ n = omega (arith, h) in
          rw (e, drop-length l, drop_of_length-le l k)

-- ---- the bytes of a line put together: the first `held` of those that the line had, and then more

module _ (line more : List ℕ) (len held : ℕ) (size : length line ≡ 512) (least : held ≡ min len 512) where
  pub held-is : take held line ≡ take len line
  held-is = let e : held ≡ min len (length line) = omega arith in rw e (take-least len line)

  whole_length : length (take len line ++ more) ≡ held + length more
  whole_length = simp (length-append, length-take) (omega arith)

  pub whole-over : 512 < held + length more → 512 < length (take len line ++ more)
  whole-over h = omega (arith, whole_length)

-- ---- a chunk, from a place on

pub take_rest : (s : List ℕ) (n : ℕ) → take (length s - n) (drop n s) ≡ drop n s
take_rest s n = take_all (length s - n) (drop n s) (omega (arith, length-drop n s))

-- a chunk's bytes after its last LF are kept, and the chunk is used up
pub at_end_of : (s : List ℕ) (m : SampleReader) (rest : List ℕ) → yet_to_come m (drop (length s) s ++ rest) ≡ yet_to_come m rest
at_end_of s m rest = rw (drop-length s)

-- a line that goes on with bytes without LF
pub kept_on : (m m' : SampleReader) (more : List ℕ) → index_of LF more ≡ length more → ((rest : List ℕ) → yet_to_come m' rest ≡ to_come m.stage (lines_after (begun_in m ++ more) rest))
    → (rest : List ℕ) → yet_to_come m (more ++ rest) ≡ yet_to_come m' rest
unfolding yet_to_come
kept_on m m' more none keeps rest = ap (to_come m.stage) (line-goes-on (begun_in m) more rest none) ∙ sym (keeps rest)

pub kept_whole : (s : List ℕ) (next : ℕ) (m m' : SampleReader) (rest : List ℕ) → index_of LF (drop next s) ≡ length (drop next s)
    → ((rest : List ℕ) → yet_to_come m' rest ≡ to_come m.stage (lines_after (begun_in m ++ take (length s - next) (drop next s)) rest))
    → yet_to_come m (drop next s ++ rest) ≡ yet_to_come m' (drop (length s) s ++ rest)
kept_whole s next m m' rest none keeps = kept_on m m' (drop next s) none (rw (take_rest s next) at keeps) rest ∙ sym (at_end_of s m' rest)

-- the first LF from `next` on stands at `end`, which is the chunk's length where there is none
module _ (chunk : List ℕ) (next end : ℕ) (first : end ≡ next + index_of LF (slice next (length chunk) chunk)) where
  place : index_of LF (drop next chunk) ≡ end - next
  unfolding slice
  place = let e = rw (take-length chunk) at first in omega (arith, e)

  not-before : next ≤ end
  not-before = omega (arith, first)

  pub no-further : length chunk ≤ end → index_of LF (take (length chunk - next) (drop next chunk)) ≡ length (take (length chunk - next) (drop next chunk))
  no-further h = rw (take_rest chunk next) (omega (arith, length-drop next chunk, place, index-le LF (drop next chunk)))

  after_first : drop (suc (index_of LF (drop next chunk))) (drop next chunk) ≡ drop (end + 1) chunk
  after_first =
      let e : next + suc (end - next) ≡ end + 1 = omega (arith, not-before) in
      rw place (drop-drop (suc (end - next)) next chunk ∙ ap (λ (n : ℕ). drop n chunk) e)

  -- the line up to that LF leads to what it gave, and then to what the bytes after the LF come to
  pub one_line : (stage after : Stage) (found : Option Sample) (begun rest : List ℕ) → end < length chunk
      → ((ls : List Line) → to_come stage (ended (begun ++ take (end - next) (drop next chunk)) ∷ ls) ≡ row_first found (to_come after ls))
      → to_come stage (lines_after begun (drop next chunk ++ rest)) ≡ row_first found (to_come after (lines_after [] (drop (end + 1) chunk ++ rest)))
  one_line stage after found begun rest h ends =
      let b : index_of LF (drop next chunk) < length (drop next chunk) = omega (arith, length-drop next chunk, place, not-before) in
      ap (to_come stage) (line_first begun (drop next chunk) rest b ∙ rw (after_first, place)) ∙ ends (lines_after [] (drop (end + 1) chunk ++ rest))

-- ---- the usual row

line-told : (text d rest : List ℕ) → index_of LF text ≡ length text → lines_after [] ((text ++ LF ∷ d) ++ rest) ≡ ended text ∷ lines_after [] (d ++ rest)
unfolding index_of index_after
line-told text d rest h =
    ap (lines_after []) (append_assoc text (LF ∷ d) rest)
    ∙ line-goes-on [] text (LF ∷ (d ++ rest)) h
    ∙ line_first text (LF ∷ d) rest (omega arith)
    ∙ ap (λ (t : List ℕ). ended t ∷ lines_after [] (d ++ rest)) (append-nil text)

-- the line leads to what its row gave, and then to what the bytes after its LF come to
pub usual-told : (chunk : List ℕ) (at : ℕ) (columns : Columns) (last lines line : ℕ) (x : Sample) (next : ℕ) (after : Stage) (found : Option Sample) → UsualRight columns chunk at x next
    → ((l : Line) (ls : List Line) (lines : ℕ) → line ≡ min (suc lines) most_place → accepted x ≡ row_in columns line l → to_come (Stage.LaterRows columns last lines) (l ∷ ls) ≡ row_first found (to_come after ls))
    → line ≡ min (suc lines) most_place → (rest : List ℕ)
    → to_come (Stage.LaterRows columns last lines) (lines_after [] (drop at chunk ++ rest)) ≡ row_first found (to_come after (lines_after [] (drop next chunk ++ rest)))
usual-told chunk at columns last lines line x next after found u leads is rest =
    ap (λ (s : List ℕ). to_come (Stage.LaterRows columns last lines) (lines_after [] (s ++ rest))) u.is
    ∙ ap (to_come (Stage.LaterRows columns last lines)) (line-told u.text (drop next chunk) rest u.whole)
    ∙ leads (ended u.text) (lines_after [] (drop next chunk ++ rest)) lines is (u.row line)

-- ---- the whole file, from its start to its end

pub from_start : (rest : List ℕ) → to_come Stage.Heading (lines_after [] rest) ≡ file_rows rest
unfolding to_come file_rows answer_from
from_start rest = ap (up_to_refused (answer_from Stage.Heading)) (lines-begun rest)

rows_are : (a : Answer (List (List ℕ))) → samples_of a ≡ (a >>= λ (rows : List (List ℕ)). accepted (map sample_of rows))
rows_are (accepted _) = refl
rows_are (refused _ _) = refl

-- where no line is refused the rows are the paper's, and else the refusal is
pub file-answer : (s : List ℕ) → answer_of (file_rows s) ≡ placed (sample_file s)
unfolding file_rows sample_file
file-answer s = answer-read (λ (ls : List Line). placed (samples_of (sheet_lines sample_sheet ls))) (lines s) ∙ ap placed (rows_are (sheet_lines sample_sheet (lines s)))

-- the end of the file, after a line that gave `found`
pub ending-refused : (found : Option Sample) (v : Result (Unit {0}) Refusal) (a : RowsRead) (r : Refusal) → v ≡ Err r → end_of v ≡ a → (is_some found ≡ true → a.verdict ≡ accepted tt)
    → record { rows = []; verdict = refusal_of r } ≡ row_first found a
ending-refused (Some x) v a r p e unrefused = not-accepted _ _ tt (ap (λ (w : Result (Unit {0}) Refusal). result_of w) (sym p) ∙ ap (λ (r : RowsRead). r.verdict) e ∙ unrefused refl)
ending-refused None v a r p e unrefused = ap end_of (sym p) ∙ e

pub ending-told : (found : Option Sample) (v : Result (Unit {0}) Refusal) (a : RowsRead) → v ≡ Ok tt → end_of v ≡ a → ending_of (Ok found) ≡ row_first found a
ending-told (Some x) v a p e = ap (row_first (Some x)) (ap end_of (sym p) ∙ e)
ending-told None v a p e = ap end_of (sym p) ∙ e

-- a last line without LF is a line
pub last_line : (s : List ℕ) → 0 < length s → lines_after s [] ≡ record { size = length s; text = s } ∷ []
last_line [] h = absurd (omega arith)
last_line (x ∷ s) h = line-at-end (x ∷ s)
