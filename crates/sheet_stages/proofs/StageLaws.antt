-- A line takes each stage to the next: what was to come is the row that it gave, and then what is to come. Assumes nothing.
use Rattle.std.specs.Prelude.{if◌then◌else◌, Ok, Err, Some, None, Result, Option, is_some}
use Prim.Native.Nat.{ℕ, suc, min, ◌≤◌, ◌<◌}
use mathlib.Core.Path.{◌≡◌, refl, sym, ap, subst, ◌∙◌}
use mathlib.Core.Bool.{Bool, true, false}
use mathlib.Core.List.{List, [], ◌∷◌}
use native.Mathlib.Omega.{arith}
use lib.Dec.{ltb, eqb}
use borrow.Author.Tests.{lt-leb, eqb-true}
use Rattle.rules.specs.declared.answers.Refusal.{Refusal}
use Rattle.rules.specs.declared.samples.Sample.{Sample}
use Rattle.rules.specs.Answers.{Answer, accepted, refused, is_accepted, value_or, refusal_of, need, ◌>>=◌, ◌>>◌, result_of}
use Rattle.rules.specs.Lines.{Line}
use Rattle.rules.specs.SampleFile.{sample_sheet, heading_line, row_values, time_in, later_rows, rows_after, sheet_lines, sample_of}
use Rattle.rules.proofs.Tests.{never}
use Rattle.rules.proofs.Checks.{bound, same-value}
use Rattle.sheet_headings.specs.declared.headings.Columns.{Columns}
use Rattle.sheet_stages.specs.declared.stage.Stage.{Stage}
use Rattle.sheet_stages.specs.declared.stage.Turn.{Turn}
use Rattle.sheet_headings.specs.Headings.{columns_of, headed_of}
use Rattle.sheet.specs.Rows.{row_in}
use Rattle.sheet_stages.specs.ToCome.{most_place, placed, samples_of, answer_from, row_before, RowsRead, longest, up_to_refused, to_come, row_first, end_of}
use Rattle.sheet_stages.specs.Stages.{waiting, after_later}
use Rattle.sheet_stages.proofs.PlaceLaws.{refused-stays, row-place, heading-place, later-place}
use Rattle.sheet_stages.proofs.UpToRefused.{line_read, line_refused, none_read, row-accepted}

-- ---- what a line's answer leads to, as the code has it

abbrev pub after_heading : Result Columns Refusal → Turn
after_heading (Ok columns) = waiting (Stage.FirstRow columns)
after_heading (Err r) = waiting (Stage.Refused r)

-- 21: "first row's time not 0"
abbrev pub after_first : Columns → Result Sample Refusal → Turn
after_first columns (Ok x) =
    if eqb x.at 0 then record { stage = Stage.LaterRows columns 0 2; found = Some x } else waiting (Stage.Refused (Refusal.FirstTime 2))
after_first columns (Err r) = waiting (Stage.Refused r)

-- ---- that it is right

-- what a line gave, and then what is to come of the lines that are left
abbrev after : Turn → List Line → Answer (List Sample)
after t ls = row_before t.found (answer_from t.stage ls)

-- the line l is taken, and the lines ls are left
abbrev Answered : Stage → Line → List Line → Turn → Type 0
Answered stage l ls t = answer_from stage (l ∷ ls) ≡ after t ls

-- ---- the heading line

heading-answered : (l : Line) (ls : List Line) (h : Result Columns Refusal) → headed_of h ≡ heading_line sample_sheet.names l → Answered Stage.Heading l ls (after_heading h)
unfolding answer_from sheet_lines
heading-answered l ls (Ok c) e = rw (← e)
heading-answered l ls (Err r) e =
    let p : placed {A = List ℕ} (refusal_of r) ≡ refusal_of r = rw (← e) at (heading-place sample_sheet.names l) in
    rw (← e) (refused-stays _ _ p)

-- ---- rows

-- a row that is refused gave no values
no-values : {A B : Type 0} (a : Answer A) (f : A → B) (r : Refusal) → refusal_of r ≡ (a >>= λ (x : A). accepted (f x)) → a ≡ refusal_of r
no-values (accepted a) f r e = absurd (let z : ◌≡◌ {A = ℕ} 0 1 = cc in omega arith)
no-values (refused number place) f r e = cc

-- an accepted row stands before those after it
row_before_lem : (a : Answer (List (List ℕ))) (values : List ℕ)
    → placed (samples_of (a >>= λ (rows : List (List ℕ)). accepted (values ∷ rows))) ≡ row_before (Some (sample_of values)) (placed (samples_of a))
row_before_lem (accepted rows) values = refl
row_before_lem (refused number place) values = refl

row-skipped : (a : Answer (List (List ℕ))) → placed (samples_of (a >>= λ (rows : List (List ℕ)). accepted rows)) ≡ placed (samples_of a)
row-skipped (accepted rows) = refl
row-skipped (refused number place) = refl

module _ (c : Columns) (l : Line) (ls : List Line) where
  abbrev columns : List ℕ
  columns = columns_of c

  first-values : (values : List ℕ) → row_values sample_sheet columns 2 l ≡ accepted values → Answered (Stage.FirstRow c) l ls (after_first c (Ok (sample_of values)))
  unfolding answer_from rows_after
  first-values values e = rw e (go (eqb (time_in values) 0) refl)
    where
      go : (b : Bool) → eqb (time_in values) 0 ≡ b
          → placed (samples_of (need b 21 2 >> (later_rows sample_sheet columns 3 (time_in values) ls >>= λ (rows : List (List ℕ)). accepted (values ∷ rows))))
          ≡ after (if b then record { stage = Stage.LaterRows c 0 2; found = Some (sample_of values) } else record { stage = Stage.Refused (Refusal.FirstTime 2); found = None }) ls
      go true z =
          row_before_lem (later_rows sample_sheet columns 3 (time_in values) ls) values
          ∙ ap (λ (t : ℕ). row_before (Some (sample_of values)) (placed (samples_of (later_rows sample_sheet columns 3 t ls)))) (eqb-true (time_in values) 0 z)
      go false z = refl

  first-answered : (r : Result Sample Refusal) → result_of r ≡ row_in c 2 l → Answered (Stage.FirstRow c) l ls (after_first c r)
  unfolding answer_from rows_after
  first-answered (Ok x) e =
      let b = bound (row_values sample_sheet columns 2 l) (λ (values : List ℕ). accepted (sample_of values)) x (sym e) in
      subst (λ (y : Sample). Answered (Stage.FirstRow c) l ls (after_first c (Ok y))) (same-value (sample_of b.0) x b.2) (first-values b.0 b.1)
  first-answered (Err r) e =
      let n = no-values (row_values sample_sheet columns 2 l) sample_of r e in
      let h : 2 ≤ most_place = omega arith in
      rw n (refused-stays _ _ (rw n at (row-place sample_sheet columns 2 l h)))

  -- ---- a later row

  abbrev Later : ℕ → ℕ → Turn → Type 0
  Later last line t = placed (samples_of (later_rows sample_sheet columns line last (l ∷ ls))) ≡ after t ls

  later-values : (last line : ℕ) (values : List ℕ) → row_values sample_sheet columns line l ≡ accepted values → Later last line (after_later c last line (Ok (sample_of values)))
  unfolding answer_from later_rows
  later-values last line values e = rw e (go (ltb last (time_in values)))
    where
      go : (b : Bool)
          → placed (samples_of (later_rows sample_sheet columns (suc line) (if b then time_in values else last) ls >>= λ (rows : List (List ℕ)). accepted (if b then values ∷ rows else rows)))
          ≡ after (if b then record { stage = Stage.LaterRows c (time_in values) line; found = Some (sample_of values) } else record { stage = Stage.LaterRows c last line; found = None }) ls
      go true = row_before_lem (later_rows sample_sheet columns (suc line) (time_in values) ls) values
      go false = row-skipped (later_rows sample_sheet columns (suc line) last ls)

  later-read : (last line : ℕ) → line ≤ most_place → (r : Result Sample Refusal) → result_of r ≡ row_in c line l → Later last line (after_later c last line r)
  unfolding answer_from later_rows
  later-read last line h (Ok x) e =
      let b = bound (row_values sample_sheet columns line l) (λ (values : List ℕ). accepted (sample_of values)) x (sym e) in
      subst (λ (y : Sample). Later last line (after_later c last line (Ok y))) (same-value (sample_of b.0) x b.2) (later-values last line b.0 b.1)
  later-read last line h (Err r) e =
      let n = no-values (row_values sample_sheet columns line l) sample_of r e in
      rw n (refused-stays _ _ (rw n at (row-place sample_sheet columns line l h)))

  -- the count of lines stops at the greatest place, which changes no answer
  later-answered : (last lines line : ℕ) → line ≡ min (suc lines) most_place → (r : Result Sample Refusal) → result_of r ≡ row_in c line l → Answered (Stage.LaterRows c last lines) l ls (after_later c last line r)
  unfolding answer_from
  later-answered last lines line is r e =
      let m : min (suc lines) most_place ≡ min line most_place = omega arith in
      let h : line ≤ most_place = omega arith in
      samples-placed (later_rows sample_sheet columns (suc lines) last (l ∷ ls))
      ∙ ap samples_of (later-place sample_sheet columns (l ∷ ls) (suc lines) line last m)
      ∙ sym (samples-placed (later_rows sample_sheet columns line last (l ∷ ls)))
      ∙ later-read last line h r e
    where
      samples-placed : (a : Answer (List (List ℕ))) → placed (samples_of a) ≡ samples_of (placed a)
      samples-placed (accepted rows) = refl
      samples-placed (refused number place) = refl

-- ---- and so of the rows up to the first refused line

-- the line l is taken, and the lines ls are left
abbrev Taken : Stage → Line → List Line → Turn → Type 0
Taken stage l ls t = to_come stage (l ∷ ls) ≡ row_first t.found (to_come t.stage ls)

-- no line gives no row
none_yet : (stage : Stage) → value_or [] (answer_from stage []) ≡ []
unfolding answer_from sheet_lines rows_after later_rows
none_yet Stage.Heading = refl
none_yet (Stage.FirstRow _) = refl
none_yet (Stage.LaterRows _ _ _) = refl
none_yet (Stage.Refused _) = refl

-- a line that gives a row leads to a stage that needs no further one
abbrev Open : Turn → Type 0
Open t = is_some t.found ≡ true → is_accepted (answer_from t.stage []) ≡ true

taken : (stage : Stage) (l : Line) (ls : List Line) (t : Turn) → ((p : List Line) → Answered stage l p t) → Open t → Taken stage l ls t
unfolding to_come
taken stage l ls t leads unrefused = line_read (answer_from stage) (answer_from t.stage) l ls t.found leads (none_yet stage) unrefused

first-open : (c : Columns) (r : Result Sample Refusal) → Open (after_first c r)
unfolding answer_from later_rows
first-open c (Ok x) = go (eqb x.at 0)
  where
    go : (b : Bool) → Open (if b then record { stage = Stage.LaterRows c 0 2; found = Some x } else waiting (Stage.Refused (Refusal.FirstTime 2)))
    go true h = refl
    go false h = never h
first-open c (Err r) = λ h. never h

later-open : (c : Columns) (last line : ℕ) (r : Result Sample Refusal) → Open (after_later c last line r)
unfolding answer_from later_rows
later-open c last line (Ok x) = go (ltb last x.at)
  where
    go : (b : Bool) → Open (if b then record { stage = Stage.LaterRows c x.at line; found = Some x } else waiting (Stage.LaterRows c last line))
    go true h = refl
    go false h = never h
later-open c last line (Err r) = λ h. never h

pub heading-taken : (l : Line) (ls : List Line) (h : Result Columns Refusal) → headed_of h ≡ heading_line sample_sheet.names l → Taken Stage.Heading l ls (after_heading h)
heading-taken l ls (Ok c) e = taken Stage.Heading l ls (after_heading (Ok c)) (λ p. heading-answered l p (Ok c) e) (λ h. never h)
heading-taken l ls (Err r) e = taken Stage.Heading l ls (after_heading (Err r)) (λ p. heading-answered l p (Err r) e) (λ h. never h)

pub first_taken : (c : Columns) (l : Line) (ls : List Line) (r : Result Sample Refusal) → result_of r ≡ row_in c 2 l → Taken (Stage.FirstRow c) l ls (after_first c r)
first_taken c l ls r e = taken (Stage.FirstRow c) l ls (after_first c r) (λ p. first-answered c l p r e) (first-open c r)

pub later-taken : (c : Columns) (l : Line) (ls : List Line) (last lines line : ℕ) → line ≡ min (suc lines) most_place → (r : Result Sample Refusal) → result_of r ≡ row_in c line l
    → Taken (Stage.LaterRows c last lines) l ls (after_later c last line r)
later-taken c l ls last lines line is r e =
    taken (Stage.LaterRows c last lines) l ls (after_later c last line r) (λ p. later-answered c l p last lines line is r e) (later-open c last line r)

-- the same of what the code has
pub later-led : (c : Columns) (last line : ℕ) (r : Result Sample Refusal) (t : Turn) → t ≡ after_later c last line r → (l : Line) (ls : List Line) (lines : ℕ) → line ≡ min (suc lines) most_place → result_of r ≡ row_in c line l
    → to_come (Stage.LaterRows c last lines) (l ∷ ls) ≡ row_first t.found (to_come t.stage ls)
later-led c last line r t is l ls lines count e =
    subst (λ (u : Turn). to_come (Stage.LaterRows c last lines) (l ∷ ls) ≡ row_first u.found (to_come u.stage ls)) (sym is) (later-taken c l ls last lines line count r e)

pub refused-read : (r : Refusal) (ls : List Line) → to_come (Stage.Refused r) ls ≡ record { rows = []; verdict = refusal_of r }
unfolding to_come answer_from
refused-read r ls = none_read _ _ ls

pub refused-taken : (r : Refusal) (l : Line) (ls : List Line) → Taken (Stage.Refused r) l ls (record { stage = Stage.Refused r; found = None })
refused-taken r l ls = refused-read r (l ∷ ls) ∙ sym (refused-read r ls)

-- ---- 11: whatever follows

-- a line that is refused as 11 is refused for good
module _ (l : Line) (ls rest : List Line) (long : 512 < l.size) where
  too_long : (stage : Stage) (line : ℕ) → ((p : List Line) → answer_from stage (l ∷ p) ≡ refused 11 line) → to_come stage (l ∷ ls) ≡ to_come (Stage.Refused (Refusal.LineLength line)) rest
  unfolding to_come
  too_long stage line is = line_refused (answer_from stage) l ls 11 line is (none_yet stage) ∙ sym (refused-read (Refusal.LineLength line) rest)

  pub long-heading : to_come Stage.Heading (l ∷ ls) ≡ to_come (Stage.Refused (Refusal.LineLength 1)) rest
  unfolding answer_from sheet_lines heading_line
  long-heading = too_long Stage.Heading 1 (λ p. rw (lt-leb l.size 512 long))

  pub long-first : (c : Columns) → to_come (Stage.FirstRow c) (l ∷ ls) ≡ to_come (Stage.Refused (Refusal.LineLength 2)) rest
  unfolding answer_from rows_after row_values
  long-first c = too_long (Stage.FirstRow c) 2 (λ p. rw (lt-leb l.size 512 long))

  pub long-later : (c : Columns) (last lines line : ℕ) → line ≡ min (suc lines) most_place → to_come (Stage.LaterRows c last lines) (l ∷ ls) ≡ to_come (Stage.Refused (Refusal.LineLength line)) rest
  unfolding answer_from later_rows row_values
  long-later c last lines line e = too_long (Stage.LaterRows c last lines) line (λ p. rw (lt-leb l.size 512 long, e))

  pub long-refused : (r : Refusal) → to_come (Stage.Refused r) (l ∷ ls) ≡ to_come (Stage.Refused r) rest
  long-refused r = refused-read r (l ∷ ls) ∙ sym (refused-read r rest)

-- ---- the end of the file

pub end-heading : end_of (Err (Refusal.FirstHeading 1)) ≡ to_come Stage.Heading []
unfolding to_come up_to_refused longest answer_from sheet_lines
end-heading = refl

pub end-first : (c : Columns) → end_of (Err Refusal.NoRow) ≡ to_come (Stage.FirstRow c) []
unfolding to_come up_to_refused longest answer_from rows_after
end-first c = refl

pub end_later : (c : Columns) (last lines : ℕ) → end_of (Ok tt) ≡ to_come (Stage.LaterRows c last lines) []
unfolding to_come up_to_refused longest answer_from later_rows
end_later c last lines = refl

pub end_refused : (r : Refusal) → end_of (Err r) ≡ to_come (Stage.Refused r) []
end_refused r = sym (refused-read r [])

-- a row that a line gives is that of an accepted beginning
pub row_ends : (stage after : Stage) (found : Option Sample) (l : Line) → ((ls : List Line) → to_come stage (l ∷ ls) ≡ row_first found (to_come after ls)) → is_some found ≡ true
    → (to_come after []).verdict ≡ accepted tt
unfolding to_come
row_ends stage after (Some x) l leads h =
    sym (ap (λ (r : RowsRead). r.verdict) (leads [])) ∙ row-accepted (answer_from stage) l x _ (none_yet stage) (ap (λ (r : RowsRead). r.rows) (leads []))
row_ends stage after None l leads h = never h
