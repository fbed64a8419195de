-- The columns of a heading line that were read so far, as the code holds them. Assumes nothing.
use Rattle.std.specs.Prelude.{if◌then◌else◌}
use Prim.Native.Nat.{ℕ, ◌<◌}
use mathlib.Core.Path.{◌≡◌, refl, sym, ap, ◌∙◌}
use mathlib.Core.Bool.{Bool, true, false, not, ◌&&◌, ◌||◌}
use mathlib.Core.List.{List, [], ◌∷◌, ◌++◌}
use native.Mathlib.Omega.{arith}
use native.Mathlib.Decide.{dec_lt}
use lib.Dec.{eqb}
use lib.ListN.{length, drop, get_or}
use borrow.Author.Tests.{eq-eqb, ne_eqb, not-true}
use Rattle.rules.specs.Numbers.{all_to, all_hold}
use Rattle.rules.specs.Bytes.{same}
use Rattle.rules.specs.Answers.{Answer, accepted, refused, need, ◌>>=◌, ◌>>◌}
use Rattle.rules.specs.SampleFile.{sample_sheet, name_of, occurs, headings}
use Rattle.rules.proofs.Tests.{never, both, all-at, to_at}
use Rattle.rules.proofs.Checks.{bound, same-value}
use Rattle.sheet_headings.specs.declared.headings.Columns.{Columns}
use Rattle.sheet_headings.specs.Headings.{columns_of}
use Rattle.sheet_headings.proofs.HeadingLaws.{same_true, heading-blank, heading-unknown, heading-twice, heading-new, heading-read, headings-end}

-- one that was read; 0, the time's name, stands for one that is still to be read
abbrev pub if_read : ℕ → List ℕ → List ℕ
if_read name names = if eqb name 0 then names else name ∷ names

-- the names read so far, the time's first
unfoldable pub seen : Columns → List ℕ
seen c = 0 ∷ if_read c.second (if_read c.third (if_read c.fourth []))

unfoldable pub distinct : List ℕ → Bool
distinct [] = true
distinct (x ∷ xs) = not (occurs x xs) && distinct xs

-- those still to be read stand first
abbrev pub in_order : ℕ → ℕ → Bool
in_order name next = eqb name 0 || not (eqb next 0)

unfoldable pub right : Columns → Bool
right c = distinct (seen c) && in_order c.second c.third && in_order c.third c.fourth

-- names of the sheet, none read twice, and those still to be read in front
pub record Right (c : Columns) : Type 0 where
  pub holds : right c ≡ true
  pub second-in : c.second < 4
  pub third-in : c.third < 4
  pub fourth-in : c.fourth < 4

abbrev pub columns_with : ℕ → ℕ → ℕ → Columns
columns_with second third fourth = record { second = second; third = third; fourth = fourth }

-- the columns after one heading more, as the code moves them along
abbrev moved : Columns → ℕ → Columns
moved c name = columns_with c.third c.fourth name

abbrev implies : Bool → Bool → Bool
implies a b = if a then b else true

implied : (a b : Bool) → implies a b ≡ true → a ≡ true → b ≡ true
implied true b h k = h
implied false b h k = never k

-- a name that is new stands after those read, and the columns that it moves along are right again
abbrev turn_tests : Columns → ℕ → List Bool
turn_tests c name =
    let old = occurs name (columns_of c) in
    implies old (occurs name (seen c))
    ∷ implies (not old) (not (occurs name (seen c)))
    ∷ implies (not old) (same (seen c ++ (name ∷ [])) (seen (moved c name)))
    ∷ implies (not old) (right (moved c name))
    ∷ []

unfoldable turn_test : Columns → ℕ → Bool
turn_test c name = implies (right c) (all_hold (turn_tests c name))

abbrev all_seen : Columns → Bool
all_seen c = all_to 4 (λ name. occurs name (seen c))

-- each name was read where the second column was, and the names read are then those of the columns
abbrev end_tests : Columns → Bool
end_tests c = if eqb c.second 0 then not (all_seen c) else all_seen c && same (seen c) (columns_of c)

unfoldable end_test : Columns → Bool
end_test c = implies (right c) (end_tests c)

-- both tests, of all names below 4
computed : all_to 4 (λ x. all_to 4 (λ y. all_to 4 (λ z. end_test (columns_with x y z) && all_to 4 (λ name. turn_test (columns_with x y z) name)))) ≡ true
unfolding all_to turn_test end_test right seen distinct occurs same
computed = refl

-- what they say of columns that are right
holds_at : (c : Columns) → Right c → end_test c && all_to 4 (λ name. turn_test c name) ≡ true
holds_at c r = to_at _ 4 (to_at _ 4 (to_at _ 4 computed c.second r.second-in) c.third r.third-in) c.fourth r.fourth-in

module _ (c : Columns) (r : Right c) where
  module _ (name : ℕ) (known : name < 4) where
    turn_at : (i : ℕ) → get_or (turn_tests c name) i true ≡ true
    unfolding turn_test
    turn_at i = all-at (turn_tests c name) i (implied (right c) _ (to_at _ 4 (both (end_test c) _ (holds_at c r)).1 name known) r.holds)

    old-seen : occurs name (columns_of c) ≡ true → occurs name (seen c) ≡ true
    old-seen h = implied _ _ (turn_at 0) h

    module _ (new : occurs name (columns_of c) ≡ false) where
      is-new : not (occurs name (columns_of c)) ≡ true
      is-new = rw new

      new-seen : occurs name (seen c) ≡ false
      new-seen = not-true _ (implied _ _ (turn_at 1) is-new)

      one_more : seen c ++ (name ∷ []) ≡ seen (moved c name)
      one_more = same_true _ _ (implied _ _ (turn_at 2) is-new)

      still-right : Right (moved c name)
      still-right = record { holds = implied _ _ (turn_at 3) is-new; second-in = r.third-in; third-in = r.fourth-in; fourth-in = known }

-- ---- one heading more

abbrev pub names : List (List ℕ)
names = sample_sheet.names

-- the columns after a heading, as `with_heading` moves them along
abbrev pub along : List ℕ → Answer (List ℕ)
along columns = accepted (0 ∷ drop 2 columns)

module _ (c : Columns) (r : Right c) (h : List ℕ) (hs : List (List ℕ)) where
  pub turn-refused : (number place : ℕ) → refused number place ≡ (headings names (columns_of c) (h ∷ []) >>= along)
      → headings names (seen c) (h ∷ hs) ≡ refused number place
  unfolding sample_sheet
  turn-refused number place e = go (dec_lt 0 (length h)) (dec_lt (name_of names h) 4) (occurs (name_of names h) (columns_of c)) refl
    where
      go : Dec (0 < length h) → Dec (name_of names h < 4) → (b : Bool) → occurs (name_of names h) (columns_of c) ≡ b → headings names (seen c) (h ∷ hs) ≡ refused number place
      go (no n) d b o =
          let z : length h ≡ 0 = omega (arith, n) in
          heading-blank names (seen c) h hs z ∙ sym (e ∙ rw (heading-blank names (columns_of c) h [] z))
      go (yes y) (no n) b o =
          heading-unknown names (seen c) h hs y _ refl (omega (arith, n)) ∙ sym (e ∙ rw (heading-unknown names (columns_of c) h [] y _ refl (omega (arith, n))))
      go (yes y) (yes k) true o =
          heading-twice names (seen c) h hs y _ refl k (old-seen c r _ k o) ∙ sym (e ∙ rw (heading-twice names (columns_of c) h [] y _ refl k o))
      go (yes y) (yes k) false o =
          let q : refused number place ≡ along (columns_of c ++ (name_of names h ∷ [])) = e ∙ rw (heading-new names (columns_of c) h [] y _ refl k o, headings-end) in
          absurd (let z : ◌≡◌ {A = ℕ} 0 1 = cc in omega arith)

  pub turn-found : (next : Columns) → accepted (columns_of next) ≡ (headings names (columns_of c) (h ∷ []) >>= along)
      → Right next × (headings names (seen c) (h ∷ hs) ≡ headings names (seen next) hs)
  unfolding sample_sheet
  turn-found next e =
      let b = bound (headings names (columns_of c) (h ∷ [])) along (columns_of next) (sym e) in
      let t = heading-read names (columns_of c) h b.0 b.1 in
      let name = name_of names h in
      let q : columns_of (moved c name) ≡ columns_of next = ap (λ (l : List ℕ). 0 ∷ drop 2 l) t.3 ∙ same-value _ _ b.2 in
      let z : moved c name ≡ next = ap (λ (l : List ℕ). columns_with (get_or l 1 0) (get_or l 2 0) (get_or l 3 0)) q in
      let known = t.1 in
      let new = t.2 in
      let read = heading-new names (seen c) h hs t.0 name refl known (new-seen c r name known new) in
      rw (← z) (still-right c r name known new, read ∙ rw (one_more c r name known new))

-- ---- the end of the line

-- "then 15"
abbrev pub complete : List ℕ → Answer (List ℕ)
complete columns = need (all_to (length names) (λ name. occurs name columns)) 15 1 >> accepted columns

abbrev pub none_read : Columns
none_read = columns_with 0 0 0

pub none_right : Right none_read
unfolding right seen distinct occurs
none_right = record { holds = refl; second-in = omega arith; third-in = omega arith; fourth-in = omega arith }

module _ (c : Columns) (r : Right c) where
  end-at : end_tests c ≡ true
  unfolding end_test
  end-at = implied (right c) _ (both (end_test c) _ (holds_at c r)).0 r.holds

  pub one-missing : c.second ≡ 0 → refused 15 1 ≡ complete (seen c)
  unfolding sample_sheet
  one-missing h =
      let e : all_seen c ≡ false = not-true _ (rw (eq-eqb c.second 0 h) at end-at) in
      rw e

  pub none-missing : (c.second ≡ 0 → ⊥) → accepted (columns_of c) ≡ complete (seen c)
  unfolding sample_sheet
  none-missing h =
      let t = both (all_seen c) (same (seen c) (columns_of c)) (rw (ne_eqb c.second 0 h) at end-at) in
      rw (t.0, same_true (seen c) (columns_of c) t.1)
