-- The usual row: digits and powers taken from a place on, and the four cells of a line. Assumes nothing.
use Rattle.std.specs.Prelude.{if◌then◌else◌, Some, None, Option}
use Rattle.std.proofs.Common.{◌≡◌, ℕ, zero, suc, ◌+◌, ◌-◌, ◌*◌, ◌%◌, ◌^◌, ◌<◌, ◌≤◌, Bool, true, false, ◌&&◌, eqb, ltb, leb, List, [], ◌∷◌, ◌++◌, length, get_or, take, drop, sym, refl, ap, ◌∙◌, subst, append_assoc, add-one, arith, length-append, length-drop, take-append-drop, length-take, get_or-drop, drop-cons, take-suc, drop-drop, ltb-true, eq-eqb, le-leb, leb-true}
use lib.Seq.{take-append_seam}
use Rattle.byte_search.specs.Bytes.{index_after, index_of}
use Rattle.rules.specs.declared.samples.Sample.{Sample}
use Rattle.rules.specs.Numbers.{tab}
use Rattle.rules.specs.Bytes.{LF, comma, point, digit0, is_digit, all_digits, digits, value_from, value, in_front, parts}
use Rattle.rules.specs.Lines.{ended}
use Rattle.rules.specs.Answers.{Answer, accepted, need, ◌>>=◌, ◌>>◌}
use Rattle.rules.specs.SampleFile.{sample_sheet, limited, time_cell, power_form, power_value, power_cell, cell, value_under, sample_of}
use Rattle.rules.proofs.Tests.{both, and-true, fact-within, every_append}
use Rattle.sheet_headings.specs.declared.headings.Columns.{Columns}
use Rattle.usual_rows.specs.declared.usual.NumberRead.{NumberRead}
use Rattle.sheet.specs.declared.rows.Powers.{Powers}
use Rattle.sheet.specs.Rows.{row_in, row_of_values, row_of_cells}
use Rattle.usual_rows.specs.declared.usual.UsualRow.{UsualRow}
use Rattle.usual_rows.specs.Usual.{Part, DigitsTaken, CellPart, CellTaken, TimeTaken, PowerTaken, EndTaken, PowersNamed, UsualValues, UsualOf}
use Rattle.sheet_headings.specs.Headings.{columns_of}
use Rattle.sheet_headings.proofs.PartsAt.{part-last}
use Rattle.usual_rows.proofs.Least.{Least, least-index, least-down, least-one, digits-least}
use Rattle.usual_rows.proofs.LineEnd.{end-dropped, end-least}
use Rattle.sheet.proofs.DigitLaws.{from-below, below-most}
use Rattle.sheet.proofs.RowLaws.{one_by_one}
use Rattle.sheet.proofs.RowCells.{four}

-- ---- one digit more

all_more : (l : List ℕ) (x : ℕ) → all_digits l ≡ true → is_digit x ≡ true → all_digits (l ++ (x ∷ [])) ≡ true
unfolding all_digits
all_more [] x a d = and-true d refl
all_more (y ∷ l) x a d = let t = both (is_digit y) (all_digits l) a in and-true t.0 (all_more l x t.1 d)

value-more : (l : List ℕ) (v x : ℕ) → value_from v (l ++ (x ∷ [])) ≡ value_from v l * 10 + (x - 48)
unfolding value_from
value-more [] v x = refl
value-more (y ∷ l) v x = value-more l (v * 10 + (y - digit0)) x

-- from a place up to another
abbrev pub up_to : List ℕ → ℕ → ℕ → List ℕ
up_to s at i = take (i - at) (drop at s)

-- where the loop is
pub record Taking (s : List ℕ) (at most before i number : ℕ) : Type 0 where
  pub from : at ≤ i
  pub to : i ≤ at + most
  pub within : at + most ≤ length s
  pub all : all_digits (up_to s at i) ≡ true
  pub is : number ≡ value_from before (up_to s at i)

pub taking-start : (s : List ℕ) (at most before : ℕ) → at + most ≤ length s → Taking s at most before at before
unfolding all_digits value_from
taking-start s at most before h =
    let z : at - at ≡ 0 = omega arith in
    record { from = omega arith; to = omega arith; within = h; all = rw z; is = rw z }

module _ (s : List ℕ) (at most before i number : ℕ) (g : Taking s at most before i number) where
  pub taking-more : i < at + most → 48 ≤ get_or s i 0 → get_or s i 0 ≤ 57 → Taking s at most before (i + 1) (number * 10 + (get_or s i 0 - 48))
  taking-more h low high =
      let e : i + 1 - at ≡ suc (i - at) = omega (arith, g.from) in
      let p : at + (i - at) ≡ i = omega (arith, g.from) in
      let k : i - at < length (drop at s) = omega (arith, length-drop at s, g.within, g.from) in
      let more : up_to s at (i + 1) ≡ up_to s at i ++ (get_or s i 0 ∷ []) =
      ap (λ (n : ℕ). take n (drop at s)) e ∙ take-suc (drop at s) (i - at) 0 k ∙ ap (λ (x : ℕ). up_to s at i ++ (x ∷ [])) (get_or-drop at s (i - at) 0 ∙ ap (λ (n : ℕ). get_or s n 0) p) in
      record {
        from = omega (arith, g.from);
        to = omega arith;
        within = g.within;
        all = rw more (all_more (up_to s at i) (get_or s i 0) g.all (fact-within 48 57 (get_or s i 0) low high));
        is = rw more (ap (λ (n : ℕ). n * 10 + (get_or s i 0 - 48)) g.is ∙ sym (value-more (up_to s at i) before (get_or s i 0)));
      }

  pub taken : DigitsTaken s at most before (record { end = i; number = number })
  taken =
      let p : at + (i - at) ≡ i = omega (arith, g.from) in
      let n : length (up_to s at i) ≡ i - at = length-take (i - at) (drop at s) ∙ (let m = length-drop at s in let w = g.within in omega (arith, m, w, g.from, g.to)) in
      record {
        taken = up_to s at i;
        part = record { is = sym (take-append-drop (i - at) (drop at s)) ∙ ap (λ (l : List ℕ). up_to s at i ++ l) (drop-drop (i - at) at s ∙ ap (λ (k : ℕ). drop k s) p); size = omega (arith, n, p) };
        few = omega (arith, n, g.to, g.from);
        all = g.all;
        number = g.is;
      }

-- ---- parts of a text, one after the other

-- a part, a byte, and a part
pub part_then : (s : List ℕ) (at e end x : ℕ) (a b : List ℕ) → Part s at e a → e < length s → get_or s e 0 ≡ x → Part s (e + 1) end b → Part s at end (a ++ x ∷ b)
part_then s at e end x a b p h is q =
    let d : drop e s ≡ x ∷ (b ++ drop end s) = drop-cons s e 0 h ∙ ap (λ (y : ℕ). y ∷ drop (suc e) s) is ∙ ap (λ (n : ℕ). x ∷ drop n s) (sym (add-one e)) ∙ ap (λ (l : List ℕ). x ∷ l) q.is in
    record {
      is = p.is ∙ ap (λ (l : List ℕ). a ++ l) d ∙ sym (append_assoc a (x ∷ b) (drop end s));
      size = omega (arith, length-append a (x ∷ b), p.size, q.size);
    }

parts_first : (c : ℕ) (a b : List ℕ) → index_of c a ≡ length a → parts c (a ++ c ∷ b) ≡ a ∷ parts c b
unfolding parts index_of index_after
parts_first c [] b h = rw (eq-eqb c c refl)
parts_first c (x ∷ a) b h = go (eqb x c) (parts_first c a b) h
  where
    go : (q : Bool) → (index_of c a ≡ length a → parts c (a ++ c ∷ b) ≡ a ∷ parts c b) → index_after q (index_of c a) ≡ suc (length a)
        → (if q then [] ∷ parts c (a ++ c ∷ b) else in_front x (parts c (a ++ c ∷ b))) ≡ (x ∷ a) ∷ parts c b
    go true rest h = absurd (omega arith)
    go false rest h = rw (rest (omega arith))

-- ---- a power

accepts : (line limit : ℕ) (form : Bool) (v w : ℕ) → form ≡ true → v ≡ w → w ≤ limit → limited line limit form v ≡ accepted w
accepts line limit form v w f e h = rw (f, e, le-leb w limit h)

some-digits : (n : ℕ) (l : List ℕ) → 0 < length l → length l ≤ n → all_digits l ≡ true → digits n l ≡ true
unfolding digits
some-digits n l h k a = and-true (fact-within 1 n (length l) h k) a

pub whole-power : (line limit : ℕ) (w : List ℕ) (v : ℕ) → 0 < length w → length w ≤ 6 → all_digits w ≡ true → v ≡ value w → v * 1000 ≤ limit → power_cell line limit w ≡ accepted (v * 1000)
unfolding power_cell power_form power_value value_from
whole-power line limit w v h k a e l =
    let p = part-last point w (least-index 48 46 w (omega arith) (digits-least w a)) in
    let x : value w * 1000 + 0 ≡ v * 1000 = omega (arith, e) in
    rw p (accepts line limit (digits 6 w) (value w * 1000 + 0) (v * 1000) (some-digits 6 w h k a) x l)

decimal-watts : (v n : ℕ) (f : List ℕ) → 0 < length f → length f ≤ 3 → n ≡ value_from v f → v * 1000 + value f * 10 ^ (3 - length f) ≡ n * 10 ^ (3 - length f)
unfolding value_from
decimal-watts v n [] h k e = absurd (omega arith)
decimal-watts v n (x ∷ []) h k e = omega (arith, e)
decimal-watts v n (x ∷ y ∷ []) h k e = omega (arith, e)
decimal-watts v n (x ∷ y ∷ z ∷ []) h k e = omega (arith, e)
decimal-watts v n (x ∷ y ∷ z ∷ q ∷ f) h k e = absurd (omega arith)

pub decimal-power : (line limit : ℕ) (w f : List ℕ) (v n : ℕ) → 0 < length w → length w ≤ 6 → all_digits w ≡ true → v ≡ value w → 0 < length f → length f ≤ 3 → all_digits f ≡ true → n ≡ value_from v f
    → n * 10 ^ (3 - length f) ≤ limit → power_cell line limit (w ++ point ∷ f) ≡ accepted (n * 10 ^ (3 - length f))
unfolding power_cell power_form power_value
decimal-power line limit w f v n h k a e h' k' a' e' l =
    let p : parts point (w ++ point ∷ f) ≡ w ∷ f ∷ [] = parts_first point w f (least-index 48 46 w (omega arith) (digits-least w a)) ∙ ap (λ (l : List (List ℕ)). w ∷ l) (part-last point f (least-index 48 46 f (omega arith) (digits-least f a'))) in
    let x = ap (λ (u : ℕ). u * 1000 + value f * 10 ^ (3 - length f)) (sym e) ∙ decimal-watts v n f h' k' e' in
    rw p (accepts line limit (digits 6 w && digits 3 f) _ (n * 10 ^ (3 - length f)) (and-true (some-digits 6 w h k a) (some-digits 3 f h' k' a')) x l)

-- ---- the row

pub time-value : (line limit : ℕ) (a : List ℕ) (v : ℕ) → 0 < length a → length a ≤ 9 → all_digits a ≡ true → v ≡ value a → v ≤ limit → time_cell line limit a ≡ accepted v
unfolding time_cell
time-value line limit a v h k d e l = accepts line limit (digits 9 a) (value a) v (some-digits 9 a h k d) (sym e) l

under-time : (line : ℕ) (c : List ℕ) (v : ℕ) → time_cell line 316223999 c ≡ accepted v → cell line sample_sheet.limits 0 c ≡ accepted v
unfolding cell sample_sheet
under-time line c v e = e

under-power : (line name : ℕ) (c : List ℕ) (v : ℕ) → (0 < name) × (name ≤ 3) → power_cell line 50000000 c ≡ accepted v → cell line sample_sheet.limits name c ≡ accepted v
unfolding cell sample_sheet
under-power line zero c v h e = absurd (omega (arith, h.0))
under-power line (suc zero) c v h e = e
under-power line (suc (suc zero)) c v h e = e
under-power line (suc (suc (suc zero))) c v h e = e
under-power line (suc (suc (suc (suc name)))) c v h e = absurd (omega (arith, h.1))

abbrev pub line_of : List ℕ → List ℕ → List ℕ → List ℕ → List ℕ
line_of a b c d = ((a ++ comma ∷ b) ++ comma ∷ c) ++ comma ∷ d

module _ (columns : Columns) (named : PowersNamed columns) (a b c d : List ℕ) (at x y z : ℕ)
    (clean-a : Least 46 a) (clean-b : Least 46 b) (clean-c : Least 46 c) (clean-d : Least 46 d) where
  line-parts : parts comma (line_of a b c d) ≡ a ∷ b ∷ c ∷ d ∷ []
  line-parts =
      let split : line_of a b c d ≡ a ++ comma ∷ (b ++ comma ∷ (c ++ comma ∷ d)) =
      append_assoc (a ++ comma ∷ b) (comma ∷ c) (comma ∷ d) ∙ append_assoc a (comma ∷ b) (comma ∷ (c ++ comma ∷ d)) in
      ap (parts comma) split
      ∙ parts_first comma a _ (least-index 46 44 a (omega arith) clean-a)
      ∙ ap (λ (l : List (List ℕ)). a ∷ l) (parts_first comma b _ (least-index 46 44 b (omega arith) clean-b)
      ∙ ap (λ (l : List (List ℕ)). b ∷ l) (parts_first comma c _ (least-index 46 44 c (omega arith) clean-c)
      ∙ ap (λ (l : List (List ℕ)). c ∷ l) (part-last comma d (least-index 46 44 d (omega arith) clean-d))))

  least-line : Least 44 (line_of a b c d)
  least-line =
      let one : (l m : List ℕ) → Least 44 l → Least 46 m → Least 44 (l ++ comma ∷ m) = λ l m p q. every_append (λ x. leb 44 x) l (comma ∷ m) p (least-one 44 comma m (omega arith) (least-down 44 46 m (omega arith) q)) in
      one ((a ++ comma ∷ b) ++ comma ∷ c) d (one (a ++ comma ∷ b) c (one a b (least-down 44 46 a (omega arith) clean-a) clean-b) clean-c) clean-d

  module _ (s : List ℕ) (place next : ℕ) (e : EndTaken s place next) where
    pub line-whole : index_of LF (line_of a b c d ++ e.dropped) ≡ length (line_of a b c d ++ e.dropped)
    line-whole = least-index 11 10 (line_of a b c d ++ e.dropped) (omega arith) (every_append (λ x. leb 11 x) (line_of a b c d) e.dropped (least-down 11 44 (line_of a b c d) (omega arith) least-line) (end-least s place next e))

    pub line_row : (sample : Sample) (line : ℕ) → length (line_of a b c d ++ e.dropped) ≤ 512
        → time_cell line 316223999 a ≡ accepted at → power_cell line 50000000 b ≡ accepted x → power_cell line 50000000 c ≡ accepted y → power_cell line 50000000 d ≡ accepted z
        → accepted sample ≡ row_of_values columns line (at ∷ x ∷ y ∷ z ∷ []) → accepted sample ≡ row_in columns line (ended (line_of a b c d ++ e.dropped))
    line_row sample line short p q r t told =
        let size = length (line_of a b c d ++ e.dropped) in
        let cells : row_of_cells columns line (a ∷ b ∷ c ∷ d ∷ []) ≡ row_of_values columns line (at ∷ x ∷ y ∷ z ∷ []) =
        rw (one_by_one columns line a b c d, under-time line a at p, under-power line columns.second b x named.second q, under-power line columns.third c y named.third r, under-power line columns.fourth d z named.fourth t) in
        let whole = four columns line size (line_of a b c d) short a b c d line-parts in
        told ∙ sym cells ∙ whole ∙ ap (λ (text : List ℕ). row_in columns line (record { size = size; text = text })) (sym (end-dropped s place next e (line_of a b c d) least-line))

-- ---- what the code asks

pub taking-below : (s : List ℕ) (at most before i number : ℕ) → Taking s at most before i number → most ≤ 9 → before < 10 ^ (9 - most) → i < at + most → number < 10 ^ 8
taking-below s at most before i number g m b h =
    let n : length (up_to s at i) ≡ i - at = length-take (i - at) (drop at s) ∙ (let k = length-drop at s in let w = g.within in omega (arith, k, w, g.from, g.to)) in
    let e : 9 - most + length (up_to s at i) ≤ 8 = omega (arith, n, g.from) in
    rw g.is (below-most (9 - most + length (up_to s at i)) 8 (value_from before (up_to s at i)) e (from-below (up_to s at i) (9 - most) before b g.all))

pub taken-below : (s : List ℕ) (at most before : ℕ) (r : NumberRead) (n m : ℕ) → (t : DigitsTaken s at most before r) → before < 10 ^ n → n + length t.taken ≤ m → r.number < 10 ^ m
taken-below s at most before r n m t b h = rw t.number (below-most (n + length t.taken) m (value_from before t.taken) h (from-below t.taken n before b t.all))

pub named : (second third fourth : ℕ) (columns : Columns) → columns ≡ record { second = second; third = third; fourth = fourth }
    → ltb 0 second && leb second 3 && ltb 0 third && leb third 3 && ltb 0 fourth && leb fourth 3 ≡ true → PowersNamed columns
named second third fourth columns is e =
    let p = both _ (leb fourth 3) e in
    let q = both _ (ltb 0 fourth) p.0 in
    let r = both _ (leb third 3) q.0 in
    let t = both _ (ltb 0 third) r.0 in
    let u = both (ltb 0 second) (leb second 3) t.0 in
    subst PowersNamed (sym is) (record { second = (ltb-true 0 second u.0, leb-true second 3 u.1); third = (ltb-true 0 third t.1, leb-true third 3 r.1); fourth = (ltb-true 0 fourth q.1, leb-true fourth 3 p.1) })

-- the line says only where a refusal is
pub any-line : (columns : Columns) (vs : List ℕ) (x : Sample) (line line' : ℕ) → accepted x ≡ row_of_values columns line vs → accepted x ≡ row_of_values columns line' vs
unfolding row_of_values
any-line columns vs x line line' e = go (tab 4 (λ (name : ℕ). value_under name (columns_of columns) vs)) (sample_sheet.agree (tab 4 (λ (name : ℕ). value_under name (columns_of columns) vs))) e
  where
    go : (values : List ℕ) (b : Bool) → accepted x ≡ ((need b 20 line >> accepted values) >>= λ (values : List ℕ). accepted (sample_of values)) → accepted x ≡ ((need b 20 line' >> accepted values) >>= λ (values : List ℕ). accepted (sample_of values))
    go values true e = e
    go values false e = absurd (let z : ◌≡◌ {A = ℕ} 0 1 = cc in omega arith)

watts-below : (k number worth : ℕ) → k ≤ 3 → number < 10 ^ (6 + k) → worth ≡ 10 ^ (3 - k) → number * worth < 1000000000
watts-below zero number worth h l e = rw e (omega arith)
watts-below (suc zero) number worth h l e = rw e (omega arith)
watts-below (suc (suc zero)) number worth h l e = rw e (omega arith)
watts-below (suc (suc (suc zero))) number worth h l e = rw e (omega arith)
watts-below (suc (suc (suc (suc k)))) number worth h l e = absurd (omega arith)

-- ---- cells that are handed back

digits-clean : (l : List ℕ) → all_digits l ≡ true → Least 46 l
digits-clean l a = least-down 46 48 l (omega arith) (digits-least l a)

some-taken : (at end n : ℕ) → at + n ≡ end → (end ≡ at → ⊥) → 0 < n
some-taken at end n e h = omega (arith, e, h)

-- what stands between two places of a text
part-taken : (s : List ℕ) (at end : ℕ) (part : List ℕ) → Part s at end part → take (end - at) (drop at s) ≡ part
part-taken s at end part p =
    let n : end - at ≡ length part = omega (arith, p.size) in
    ap (λ (k : ℕ). take k (drop at s)) n ∙ ap (λ (l : List ℕ). take (length part) l) p.is ∙ take-append_seam part (drop end s)

part_of : (rule : ℕ → ℕ → List ℕ → Answer ℕ) (most : ℕ) (s : List ℕ) (at end : ℕ) (cell : List ℕ) (number : ℕ) → Part s at end cell → 0 < length cell → length cell ≤ most → Least 46 cell
    → ((line limit : ℕ) → number ≤ limit → rule line limit cell ≡ accepted number) → CellPart rule most s at (take (end - at) (drop at s)) number
part_of rule most s at end cell number p some few clean value =
    let here : CellPart rule most s at cell number = record { part = subst (λ (e : ℕ). Part s at e cell) (sym p.size) p; some = some; few = few; clean = clean; value = value } in
    subst (λ (c : List ℕ). CellPart rule most s at c number) (sym (part-taken s at end cell p)) here

-- such a cell, within its limit
pub cell-taken : (rule : ℕ → ℕ → List ℕ → Answer ℕ) (most limit : ℕ) (s : List ℕ) (at : ℕ) (cell : List ℕ) (number : ℕ) → CellPart rule most s at cell number → number ≤ limit
    → CellTaken rule most limit s at (at + length cell) number
cell-taken rule most limit s at cell number p h = record { cell = cell; part = p.part; few = p.few; clean = p.clean; value = λ line. p.value line limit h }

module _ (s : List ℕ) (at : ℕ) (r : NumberRead) (t : DigitsTaken s at 6 0 r) where
  pub whole_below : r.number < 10 ^ 6
  whole_below = let z : 0 + length t.taken ≤ 6 = omega (arith, t.few) in taken-below s at 6 0 r 0 6 t (omega arith) z

  pub whole-end : r.end ≤ at + 6
  whole-end = omega (arith, t.few, t.part.size)

  pub whole_part : (r.end ≡ at → ⊥) → CellPart power_cell 10 s at (take (r.end - at) (drop at s)) (r.number * 1000)
  whole_part some =
      let h : 0 < length t.taken = some-taken at r.end (length t.taken) t.part.size some in
      let few : length t.taken ≤ 10 = omega (arith, t.few) in
      part_of power_cell 10 s at r.end t.taken (r.number * 1000) t.part h few (digits-clean t.taken t.all) (λ line limit l. whole-power line limit t.taken r.number h t.few t.all t.number l)

  module _ (q : NumberRead) (f : DigitsTaken s (r.end + 1) 3 r.number q) (worth : ℕ) (w : worth ≡ 10 ^ (3 - (q.end - (r.end + 1)))) where
    decimals : q.end - (r.end + 1) ≡ length f.taken
    decimals = omega (arith, f.part.size)

    worth-is : worth ≡ 10 ^ (3 - length f.taken)
    worth-is = w ∙ ap (λ (n : ℕ). 10 ^ (3 - n)) decimals

    pub decimals-below : q.number * worth < 1000000000
    decimals-below = let z : 6 + length f.taken ≤ 6 + length f.taken = omega arith in watts-below (length f.taken) q.number worth f.few (taken-below s (r.end + 1) 3 r.number q 6 (6 + length f.taken) f whole_below z) worth-is

    pub decimal-part : r.end < length s → get_or s r.end 0 ≡ 46 → (r.end ≡ at → ⊥) → (q.end ≡ r.end + 1 → ⊥) → CellPart power_cell 10 s at (take (q.end - at) (drop at s)) (q.number * worth)
    decimal-part inside is some more =
        let h : 0 < length t.taken = some-taken at r.end (length t.taken) t.part.size some in
        let k : 0 < length f.taken = some-taken (r.end + 1) q.end (length f.taken) f.part.size more in
        let same = ap (λ (n : ℕ). q.number * n) worth-is in
        let few : length (t.taken ++ point ∷ f.taken) ≤ 10 = omega (arith, length-append t.taken (point ∷ f.taken), t.few, f.few) in
        let clean = every_append (λ x. leb 46 x) t.taken (point ∷ f.taken) (digits-clean t.taken t.all) (least-one 46 point f.taken (omega arith) (digits-clean f.taken f.all)) in
        part_of power_cell 10 s at q.end (t.taken ++ point ∷ f.taken) (q.number * worth) (part_then s at r.end q.end point t.taken f.taken t.part inside is f.part) (omega (arith, length-append t.taken (point ∷ f.taken), h)) few clean (λ line limit l.
        decimal-power line limit t.taken f.taken r.number q.number h t.few t.all t.number k f.few f.all f.number (subst (λ (n : ℕ). n ≤ limit) same l) ∙ ap (λ (n : ℕ). accepted n) (sym same))

pub time-part : (s : List ℕ) (at : ℕ) (r : NumberRead) → DigitsTaken s at 9 0 r → (r.end ≡ at → ⊥) → CellPart time_cell 9 s at (take (r.end - at) (drop at s)) r.number
time-part s at r t some =
    let h : 0 < length t.taken = some-taken at r.end (length t.taken) t.part.size some in
    part_of time_cell 9 s at r.end t.taken r.number t.part h t.few (digits-clean t.taken t.all) (λ line limit l. time-value line limit t.taken r.number h t.few t.all t.number l)

-- ---- the whole line

pub cell-end : (rule : ℕ → ℕ → List ℕ → Answer ℕ) (most limit : ℕ) (s : List ℕ) (at end number : ℕ) → CellTaken rule most limit s at end number → end ≤ at + most
cell-end rule most limit s at end number t = omega (arith, t.few, t.part.size)

pub usual-line : (columns : Columns) (s : List ℕ) (at e₀ e₁ e₂ e₃ seconds : ℕ) (powers : Powers) (next : ℕ) → PowersNamed columns → at + 44 ≤ length s
    → TimeTaken s at e₀ seconds → PowerTaken s e₀ e₁ powers.second → PowerTaken s e₁ e₂ powers.third → PowerTaken s e₂ e₃ powers.fourth → EndTaken s e₃ next
    → (r : Option UsualRow) → UsualValues columns seconds powers next r → UsualOf columns s at r
usual-line columns s at e₀ e₁ e₂ e₃ seconds powers next named room a b c d e None u = tt
usual-line columns s at e₀ e₁ e₂ e₃ seconds powers next named room a b c d e (Some r) u =
    let x = r.sample in
    let n = r.next in
    let first-end = cell-end time_cell 9 316223999 s at e₀ seconds a in
    let second-end = cell-end power_cell 10 50000000 s (e₀ + 1) e₁ powers.second b.1 in
    let third-end = cell-end power_cell 10 50000000 s (e₁ + 1) e₂ powers.third c.1 in
    let fourth-end = cell-end power_cell 10 50000000 s (e₂ + 1) e₃ powers.fourth d.1 in
    let text = line_of a.cell b.1.cell c.1.cell d.1.cell in
    let whole : Part s at e₃ text =
    part_then s at e₂ e₃ comma ((a.cell ++ comma ∷ b.1.cell) ++ comma ∷ c.1.cell) d.1.cell
    (part_then s at e₁ e₂ comma (a.cell ++ comma ∷ b.1.cell) c.1.cell
    (part_then s at e₀ e₁ comma a.cell b.1.cell a.part (omega arith) b.0 b.1.part)
    (omega arith) c.0 c.1.part) (omega arith) d.0 d.1.part in
    let after : drop e₃ s ≡ e.dropped ++ LF ∷ drop n s = e.part.is ∙ append_assoc e.dropped (LF ∷ []) (drop next s) ∙ ap (λ (k : ℕ). e.dropped ++ LF ∷ drop k s) (sym u.0) in
    let line-size = length-append text e.dropped in
    let end-size = length-append e.dropped (LF ∷ []) in
    record {
      text = text ++ e.dropped;
      is = whole.is ∙ ap (λ (l : List ℕ). text ++ l) after ∙ sym (append_assoc text e.dropped (LF ∷ drop n s));
      whole = line-whole columns named a.cell b.1.cell c.1.cell d.1.cell seconds powers.second powers.third powers.fourth a.clean b.1.clean c.1.clean d.1.clean s e₃ next e;
      onward = omega (arith, u.0, whole.size, e.part.size, end-size);
      within = omega (arith, u.0, e.part.size, e.few, end-size);
      row = λ line. line_row columns named a.cell b.1.cell c.1.cell d.1.cell seconds powers.second powers.third powers.fourth a.clean b.1.clean c.1.clean d.1.clean s e₃ next e
          x line (omega (arith, whole.size, line-size, e.few)) (a.value line) (b.1.value line) (c.1.value line) (d.1.value line) (u.1 line);
    }

-- the difference of a byte and the digit 0, where it wraps below zero
digit-of : (byte : ℕ) → byte < 256 → (byte + 4294967248) % 4294967296 ≤ 9 → (48 ≤ byte) × (byte ≤ 57) × (byte - 48 ≡ (byte + 4294967248) % 4294967296)
digit-of byte h l = (omega arith, omega arith, omega arith)

pub taking-digit : (s : List ℕ) (at most before i number byte : ℕ) → Taking s at most before i number → i < at + most → byte ≡ get_or s i 0 → byte < 256 → (byte + 4294967248) % 4294967296 ≤ 9
    → Taking s at most before (i + 1) (number * 10 + (byte + 4294967248) % 4294967296)
taking-digit s at most before i number byte g h e b l =
    let d = digit-of byte b l in
    subst (λ (x : ℕ). Taking s at most before (i + 1) (number * 10 + x)) (ap (λ (y : ℕ). y - 48) (sym e) ∙ d.2) (taking-more s at most before i number g h (rw e at d.0) (rw e at d.1))
