-- The rows of the lines up to the first refused one: one line after the other, and that they are the paper's. Assumes nothing.
use Rattle.std.specs.Prelude.{Some, None, Option, is_some}
use Prim.Native.Nat.{ℕ, suc}
use mathlib.Core.Path.{◌≡◌, refl, sym, ap, ◌∙◌}
use mathlib.Core.Bool.{true}
use mathlib.Core.List.{List, [], ◌∷◌}
use native.Mathlib.Omega.{arith}
use lib.ListN.{length}
use Rattle.rules.specs.declared.samples.Sample.{Sample}
use Rattle.rules.specs.Answers.{Answer, accepted, refused, is_accepted, judged, value_or, ◌>>◌}
use Rattle.rules.specs.Lines.{Line}
use Rattle.rules.proofs.Tests.{never}
use Rattle.rules.proofs.Checks.{not-accepted, same-value}
use Rattle.sheet_stages.specs.ToCome.{row_before, RowsRead, or_else, longest, up_to_refused, row_first, answer_of, all_read}

abbrev Answers : Type 0
Answers = List Line → Answer (List Sample)

-- ---- the longest beginning that is accepted

longest-same : (f g : Answers) (ls : List Line) → ((begun : List Line) → f begun ≡ g begun) → longest f ls ≡ longest g ls
unfolding longest
longest-same f g [] same = same []
longest-same f g (l ∷ ls) same =
    ap (λ (a : Answer (List Sample)). or_else a (f [])) (longest-same (λ (p : List Line). f (l ∷ p)) (λ (p : List Line). g (l ∷ p)) ls (λ p. same (l ∷ p)))
    ∙ ap (or_else (longest (λ (p : List Line). g (l ∷ p)) ls)) (same [])

row-else : (found : Option Sample) (a b : Answer (List Sample)) → or_else (row_before found a) (row_before found b) ≡ row_before found (or_else a b)
row-else (Some x) (accepted rows) b = refl
row-else (Some x) (refused number place) b = refl
row-else None a b = refl

longest-row : (found : Option Sample) (g : Answers) (ls : List Line) → longest (λ (p : List Line). row_before found (g p)) ls ≡ row_before found (longest g ls)
unfolding longest
longest-row found g [] = refl
longest-row found g (l ∷ ls) =
    ap (λ (a : Answer (List Sample)). or_else a (row_before found (g []))) (longest-row found (λ (p : List Line). g (l ∷ p)) ls)
    ∙ row-else found (longest (λ (p : List Line). g (l ∷ p)) ls) (g [])

longest-refused : (number place : ℕ) (ls : List Line) → longest (λ (p : List Line). refused number place) ls ≡ refused number place
unfolding longest
longest-refused number place [] = refl
longest-refused number place (l ∷ ls) = ap (λ (a : Answer (List Sample)). or_else a (refused number place)) (longest-refused number place ls)

-- where nothing is refused, it is all the lines
longest-whole : (f : Answers) (ls : List Line) (rows : List Sample) → f ls ≡ accepted rows → longest f ls ≡ accepted rows
unfolding longest
longest-whole f [] rows e = e
longest-whole f (l ∷ ls) rows e = ap (λ (a : Answer (List Sample)). or_else a (f [])) (longest-whole (λ (p : List Line). f (l ∷ p)) ls rows e)

-- where no line is needed, there is one
longest-some : (f : Answers) (ls : List Line) → is_accepted (f []) ≡ true → is_accepted (longest f ls) ≡ true
unfolding longest
longest-some f [] h = h
longest-some f (l ∷ ls) h = go (longest (λ (p : List Line). f (l ∷ p)) ls)
  where
    go : (a : Answer (List Sample)) → is_accepted (or_else a (f [])) ≡ true
    go (accepted rows) = refl
    go (refused number place) = h

-- ---- one line

judged-row : (found : Option Sample) (a : Answer (List Sample)) → judged (row_before found a) ≡ judged a
judged-row (Some x) (accepted rows) = refl
judged-row (Some x) (refused number place) = refl
judged-row None a = refl

verdict-first : (found : Option Sample) (r : RowsRead) → (row_first found r).verdict ≡ r.verdict
verdict-first (Some x) r = refl
verdict-first None r = refl

rows-first : (found : Option Sample) (a none : Answer (List Sample)) (v : Answer (Unit {0})) → value_or [] none ≡ [] → (is_some found ≡ true → is_accepted a ≡ true)
    → value_or [] (or_else (row_before found a) none) ≡ (row_first found (record { rows = value_or [] a; verdict = v })).rows
rows-first (Some x) (accepted rows) none v e unrefused = refl
rows-first (Some x) (refused number place) none v e unrefused = never (unrefused refl)
rows-first None (accepted rows) none v e unrefused = refl
rows-first None (refused number place) none v e unrefused = e

-- a line that gives a row is followed by lines of which none is needed
pub line_read : (f g : Answers) (l : Line) (ls : List Line) (found : Option Sample) → ((p : List Line) → f (l ∷ p) ≡ row_before found (g p)) → value_or [] (f []) ≡ []
    → (is_some found ≡ true → is_accepted (g []) ≡ true) → up_to_refused f (l ∷ ls) ≡ row_first found (up_to_refused g ls)
unfolding up_to_refused longest
line_read f g l ls found leads none unrefused =
    let a : longest (λ (p : List Line). f (l ∷ p)) ls ≡ row_before found (longest g ls) =
    longest-same (λ (p : List Line). f (l ∷ p)) (λ (p : List Line). row_before found (g p)) ls leads ∙ longest-row found g ls in
    let r : value_or [] (or_else (longest (λ (p : List Line). f (l ∷ p)) ls) (f [])) ≡ (row_first found (up_to_refused g ls)).rows =
    ap (λ (a : Answer (List Sample)). value_or [] (or_else a (f []))) a ∙ rows-first found (longest g ls) (f []) (judged (g ls)) none (λ h. longest-some g ls (unrefused h)) in
    let v : judged (f (l ∷ ls)) ≡ (row_first found (up_to_refused g ls)).verdict = ap judged (leads ls) ∙ judged-row found (g ls) ∙ sym (verdict-first found (up_to_refused g ls)) in
    λ i. record { rows = r i; verdict = v i }

-- a line that is refused, whatever follows
pub line_refused : (f : Answers) (l : Line) (ls : List Line) (number place : ℕ) → ((p : List Line) → f (l ∷ p) ≡ refused number place) → value_or [] (f []) ≡ []
    → up_to_refused f (l ∷ ls) ≡ record { rows = []; verdict = refused number place }
unfolding up_to_refused longest
line_refused f l ls number place is none =
    let a : longest (λ (p : List Line). f (l ∷ p)) ls ≡ refused number place = longest-same (λ (p : List Line). f (l ∷ p)) (λ (p : List Line). refused number place) ls is ∙ longest-refused number place ls in
    let r : value_or [] (or_else (longest (λ (p : List Line). f (l ∷ p)) ls) (f [])) ≡ [] = ap (λ (a : Answer (List Sample)). value_or [] (or_else a (f []))) a ∙ none in
    let v : judged (f (l ∷ ls)) ≡ refused number place = ap judged (is ls) in
    λ i. record { rows = r i; verdict = v i }

-- once a line is refused there is no row
pub none_read : (number place : ℕ) (ls : List Line) → up_to_refused (λ (p : List Line). refused number place) ls ≡ record { rows = []; verdict = refused number place }
unfolding up_to_refused
none_read number place ls =
    let r : value_or [] (longest (λ (p : List Line). refused number place) ls) ≡ [] = ap (value_or []) (longest-refused number place ls) in
    λ i. record { rows = r i; verdict = refused number place }

-- ---- the paper's answer is kept

pub answer-read : (f : Answers) (ls : List Line) → answer_of (up_to_refused f ls) ≡ f ls
unfolding up_to_refused
answer-read f ls = go (f ls) refl
  where
    go : (a : Answer (List Sample)) → f ls ≡ a → (judged a >> accepted (value_or [] (longest f ls))) ≡ a
    go (accepted rows) e = ap (λ (b : Answer (List Sample)). accepted (value_or [] b)) (longest-whole f ls rows e)
    go (refused number place) e = refl

pub answer-first : (found : Option Sample) (r : RowsRead) → answer_of (row_first found r) ≡ row_before found (answer_of r)
answer-first (Some x) r = go r.verdict
  where
    go : (v : Answer (Unit {0})) → (v >> accepted (x ∷ r.rows)) ≡ row_before (Some x) (v >> accepted r.rows)
    go (accepted u) = refl
    go (refused number place) = refl
answer-first None r = refl

-- where it is accepted these are all the rows
pub all_read_lem : (r : RowsRead) → r.verdict ≡ accepted tt → r ≡ all_read r.rows
all_read_lem r e = λ i. record { rows = r.rows; verdict = e i }

pub answer-all : (r : RowsRead) (rows : List Sample) → answer_of r ≡ accepted rows → r ≡ all_read rows
answer-all r rows e = go r.verdict refl e
  where
    go : (v : Answer (Unit {0})) → r.verdict ≡ v → (v >> accepted r.rows) ≡ accepted rows → r ≡ all_read rows
    go (accepted u) is e = all_read_lem r is ∙ ap all_read (same-value r.rows rows e)
    go (refused number place) is e = not-accepted number place rows e

-- a row is given by lines of which none is refused
pub row-accepted : (f : Answers) (l : Line) (x : Sample) (rows : List Sample) → value_or [] (f []) ≡ [] → (up_to_refused f (l ∷ [])).rows ≡ x ∷ rows → (up_to_refused f (l ∷ [])).verdict ≡ accepted tt
unfolding up_to_refused longest
row-accepted f l x rows none e = go (f (l ∷ [])) e
  where
    go : (a : Answer (List Sample)) → value_or [] (or_else a (f [])) ≡ x ∷ rows → judged a ≡ accepted tt
    go (accepted given) e = refl
    go (refused number place) e = let z : length (value_or [] (f [])) ≡ suc (length rows) = ap length e in let k : length (value_or [] (f [])) ≡ 0 = ap length none in absurd (omega (arith, z, k))

-- ---- what holds of the rows of every answer holds of these

abbrev HoldsOf : (List Sample → Type 0) → Answer (List Sample) → Type 0
HoldsOf P a = (rows : List Sample) → a ≡ accepted rows → P rows

either-holds : (P : List Sample → Type 0) (a b : Answer (List Sample)) → HoldsOf P a → HoldsOf P b → HoldsOf P (or_else a b)
either-holds P (accepted rows) b h k = h
either-holds P (refused number place) b h k = k

longest-holds : (P : List Sample → Type 0) (f : Answers) (ls : List Line) → ((ls : List Line) → HoldsOf P (f ls)) → HoldsOf P (longest f ls)
unfolding longest
longest-holds P f [] holds = holds []
longest-holds P f (l ∷ ls) holds =
    either-holds P (longest (λ (p : List Line). f (l ∷ p)) ls) (f []) (longest-holds P (λ (p : List Line). f (l ∷ p)) ls (λ p. holds (l ∷ p))) (holds [])

value-holds : (P : List Sample → Type 0) → P [] → (a : Answer (List Sample)) → HoldsOf P a → P (value_or [] a)
value-holds P none (accepted rows) h = h rows refl
value-holds P none (refused number place) h = none

pub read-holds : (P : List Sample → Type 0) → P [] → (f : Answers) → ((ls : List Line) (rows : List Sample) → f ls ≡ accepted rows → P rows) → (ls : List Line) → P (up_to_refused f ls).rows
unfolding up_to_refused
read-holds P none f holds ls = value-holds P none (longest f ls) (longest-holds P f ls holds)
