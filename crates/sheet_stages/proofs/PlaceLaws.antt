-- Every refusal of a line has that line as its place, and its number does not depend on where the line stands. Assumes nothing.
use Rattle.std.specs.Prelude.{if◌then◌else◌}
use Prim.Native.Nat.{ℕ, zero, suc, min, ◌≤◌}
use mathlib.Core.Path.{◌≡◌, refl, sym, ap, ◌∙◌}
use mathlib.Core.Bool.{Bool, true, false, not}
use mathlib.Core.List.{List, [], ◌∷◌, ◌++◌}
use native.Mathlib.Omega.{arith}
use lib.Dec.{leb, ltb, eqb}
use lib.ListN.{length, get_or}
use Rattle.rules.specs.Numbers.{tab, all_to}
use Rattle.rules.specs.Bytes.{point, digits, value, parts}
use Rattle.rules.specs.Answers.{Answer, accepted, refused, need, ◌>>=◌, ◌>>◌}
use Rattle.rules.specs.Lines.{Line, cells_of}
use Rattle.rules.specs.SampleFile.{Sheet, name_of, occurs, headings, heading_line, time_cell, power_form, power_value, power_cell, cell, cell_values, value_under, row_values, time_in, later_rows}
use Rattle.sheet_stages.specs.ToCome.{most_place, placed}

-- two answers that are the same, but for the places n and m of a refusal
data Alike (n m : ℕ) {A : Type 0} : Answer A → Answer A → Type 0 where
  both : (a : A) → Alike n m (accepted a) (accepted a)
  neither : (number : ℕ) → Alike n m (refused number n) (refused number m)

module _ (n m : ℕ) where
  alike-need : (b : Bool) (number : ℕ) → Alike n m (need b number n) (need b number m)
  alike-need true number = Alike.both tt
  alike-need false number = Alike.neither number

  alike-bind : {A B : Type 0} {a a' : Answer A} {f f' : A → Answer B} → Alike n m a a' → ((x : A) → Alike n m (f x) (f' x)) → Alike n m (a >>= f) (a' >>= f')
  alike-bind (Alike.both x) g = g x
  alike-bind (Alike.neither number) g = Alike.neither number

  alike_then : {A B : Type 0} {a a' : Answer A} {b b' : Answer B} → Alike n m a a' → Alike n m b b' → Alike n m (a >> b) (a' >> b')
  alike_then (Alike.both x) g = g
  alike_then (Alike.neither number) g = Alike.neither number

  alike-placed : {A : Type 0} {a a' : Answer A} → min n most_place ≡ min m most_place → Alike n m a a' → placed a ≡ placed a'
  alike-placed e (Alike.both x) = refl
  alike-placed e (Alike.neither number) = ap (refused number) e

  -- ---- cells and rows

  alike-limited : (limit : ℕ) (b : Bool) (v : ℕ) → Alike n m (need b 18 n >> (need (leb v limit) 19 n >> accepted v)) (need b 18 m >> (need (leb v limit) 19 m >> accepted v))
  alike-limited limit b v = alike_then (alike-need b 18) (alike_then (alike-need (leb v limit) 19) (Alike.both v))

  alike-cell : (limits : List ℕ) (name : ℕ) (c : List ℕ) → Alike n m (cell n limits name c) (cell m limits name c)
  unfolding cell time_cell power_cell
  alike-cell limits zero c = alike-limited (get_or limits 0 0) (digits 9 c) (value c)
  alike-cell limits (suc name) c = alike-limited (get_or limits (suc name) 0) (power_form (parts point c)) (power_value (parts point c))

  alike-values : (limits columns : List ℕ) (cs : List (List ℕ)) → Alike n m (cell_values n limits columns cs) (cell_values m limits columns cs)
  unfolding cell_values
  alike-values limits [] cs = Alike.both []
  alike-values limits (name ∷ columns) [] = Alike.both []
  alike-values limits (name ∷ columns) (c ∷ cs) =
      alike-bind (alike-cell limits name c) (λ v. alike-bind (alike-values limits columns cs) (λ vs. Alike.both (v ∷ vs)))

  alike-row : (sheet : Sheet) (columns : List ℕ) (l : Line) → Alike n m (row_values sheet columns n l) (row_values sheet columns m l)
  unfolding row_values
  alike-row sheet columns l =
      alike_then (alike-need (leb l.size 512) 11)
      (alike_then (alike-need (eqb (length (cells_of l)) (length columns)) 17)
      (alike-bind (alike-values sheet.limits columns (cells_of l)) (λ vs.
      let values = tab (length sheet.names) (λ name. value_under name columns vs) in
      alike_then (alike-need (sheet.agree values) 20) (Alike.both values))))

-- ---- the heading line

alike-headings : (names : List (List ℕ)) (columns : List ℕ) (hs : List (List ℕ)) → Alike 1 1 (headings names columns hs) (headings names columns hs)
unfolding headings
alike-headings names columns [] = Alike.both columns
alike-headings names columns (h ∷ hs) =
    alike_then 1 1 (alike-need 1 1 (ltb 0 (length h)) 12)
    (alike_then 1 1 (alike-need 1 1 (ltb (name_of names h) (length names)) 13)
    (alike_then 1 1 (alike-need 1 1 (not (occurs (name_of names h) columns)) 14)
    (alike-headings names (columns ++ (name_of names h ∷ [])) hs)))

alike-heading-line : (names : List (List ℕ)) (l : Line) → Alike 1 1 (heading_line names l) (heading_line names l)
unfolding heading_line
alike-heading-line names l =
    alike_then 1 1 (alike-need 1 1 (leb l.size 512) 11)
    (alike_then 1 1 (alike-need 1 1 (eqb (name_of names (get_or (cells_of l) 0 [])) 0) 16)
    (alike-bind 1 1 (alike-headings names [] (cells_of l)) (λ columns.
    alike_then 1 1 (alike-need 1 1 (all_to (length names) (λ name. occurs name columns)) 15) (Alike.both columns))))

-- ---- a place that 64 bits hold stays

-- whatever the answer would be of
pub refused-stays : {A B : Type 0} (number place : ℕ) → placed {A = A} (refused number place) ≡ refused number place → placed {A = B} (refused number place) ≡ refused number place
refused-stays {A} {B} number place e = ap again e
  where
    again : Answer A → Answer B
    again (accepted a) = refused 0 0
    again (refused number place) = refused number place

place-stays : {A : Type 0} (line : ℕ) {a a' : Answer A} → line ≤ most_place → Alike line line a a' → placed a ≡ a
place-stays line h (Alike.both x) = refl
place-stays line h (Alike.neither number) = let e : min line most_place ≡ line = omega arith in ap (refused number) e

pub row-place : (sheet : Sheet) (columns : List ℕ) (line : ℕ) (l : Line) → line ≤ most_place → placed (row_values sheet columns line l) ≡ row_values sheet columns line l
row-place sheet columns line l h = place-stays line h (alike-row line line sheet columns l)

pub heading-place : (names : List (List ℕ)) (l : Line) → placed (heading_line names l) ≡ heading_line names l
heading-place names l = let h : 1 ≤ most_place = omega arith in place-stays 1 h (alike-heading-line names l)

-- ---- lines that are counted up to the greatest place give the same answer as lines that are counted for ever

placed-bind : {A B : Type 0} (a : Answer A) (f : A → B) → placed (a >>= λ (x : A). accepted (f x)) ≡ (placed a >>= λ (x : A). accepted (f x))
placed-bind (accepted a) f = refl
placed-bind (refused number place) f = refl

-- the time that a later row is held against, and the rows with it where it is accepted
abbrev held : ℕ → List ℕ → ℕ
held last values = if ltb last (time_in values) then time_in values else last

abbrev put : ℕ → List ℕ → List (List ℕ) → List (List ℕ)
put last values rows = if ltb last (time_in values) then values ∷ rows else rows

pub later-place : (sheet : Sheet) (columns : List ℕ) (ls : List Line) (n m last : ℕ) → min n most_place ≡ min m most_place
    → placed (later_rows sheet columns n last ls) ≡ placed (later_rows sheet columns m last ls)
unfolding later_rows
later-place sheet columns [] n m last e = refl
later-place sheet columns (l ∷ ls) n m last e =
    let k : min (suc n) most_place ≡ min (suc m) most_place = omega arith in
    go (alike-row n m sheet columns l) (λ time. later-place sheet columns ls (suc n) (suc m) time k)
  where
    go : {a a' : Answer (List ℕ)} → Alike n m a a'
        → ((time : ℕ) → placed (later_rows sheet columns (suc n) time ls) ≡ placed (later_rows sheet columns (suc m) time ls))
        → placed (a >>= λ (values : List ℕ). (later_rows sheet columns (suc n) (held last values) ls >>= λ (rows : List (List ℕ)). accepted (put last values rows)))
        ≡ placed (a' >>= λ (values : List ℕ). (later_rows sheet columns (suc m) (held last values) ls >>= λ (rows : List (List ℕ)). accepted (put last values rows)))
    go (Alike.both values) same =
        placed-bind (later_rows sheet columns (suc n) (held last values) ls) (put last values)
        ∙ ap (λ (a : Answer (List (List ℕ))). a >>= λ (rows : List (List ℕ)). accepted (put last values rows)) (same (held last values))
        ∙ sym (placed-bind (later_rows sheet columns (suc m) (held last values) ls) (put last values))
    go (Alike.neither number) same = ap (refused number) e
