-- Powers one after the other, each after a comma. Assumes nothing.
use Rattle.std.specs.Prelude.{Some, Option}
use Rattle.std.proofs.Common.{◌≡◌, ℕ, zero, suc, ◌+◌, ◌*◌, ◌<◌, ◌≤◌, List, [], ◌∷◌, length, get_or, set, sym, subst, add-one, arith, get_or-set_other, get_or-set_same}
use Rattle.rules.specs.SampleFile.{power_cell}
use Rattle.sheet_headings.specs.declared.headings.Columns.{Columns}
use Rattle.usual_rows.specs.declared.usual.PowersRead.{PowersRead}
use Rattle.usual_rows.specs.declared.usual.UsualRow.{UsualRow}
use Rattle.usual_rows.specs.Usual.{TimeTaken, PowerTaken, PowersTaken, PowersOf, EndTaken, PowersNamed, UsualValues, UsualOf}
use Rattle.usual_rows.proofs.UsualLaws.{cell-end, usual-line}

-- where they end
pub powers-end : (n : ℕ) (s : List ℕ) (at end : ℕ) (watts : List ℕ) → PowersTaken n s at end watts → end ≤ at + n * 11
powers-end zero s at end watts e = omega (arith, e)
powers-end (suc n) s at end watts (middle, before, after) =
    let h = powers-end n s at middle watts before in
    let k = cell-end power_cell 10 50000000 s (middle + 1) end (get_or watts n 0) after.1 in
    omega (arith, h, k)

pub three-end : (s : List ℕ) (at : ℕ) (r : PowersRead) → PowersOf s at (Some r) → r.end ≤ at + 33
three-end s at r t = omega (arith, powers-end 3 s at r.end (r.powers.second ∷ r.powers.third ∷ r.powers.fourth ∷ []) t)

-- a value that is set after theirs
set-later : (n : ℕ) (s : List ℕ) (at end : ℕ) (watts : List ℕ) (k w : ℕ) → n ≤ k → PowersTaken n s at end watts → PowersTaken n s at end (set watts k w)
set-later zero s at end watts k w h e = e
set-later (suc n) s at end watts k w h (middle, before, after) =
    let o : n ≡ k → ⊥ = λ e. omega (arith, e, h) in (
      middle,
      set-later n s at middle watts k w (omega (arith, h)) before,
      subst (λ (v : ℕ). PowerTaken s middle end v) (sym (get_or-set_other watts k n w 0 o)) after,
    )

-- one power more
pub power-more : (n : ℕ) (s : List ℕ) (at end : ℕ) (watts : List ℕ) (after w : ℕ) → n < length watts → PowersTaken n s at end watts → PowerTaken s end after w → PowersTaken (n + 1) s at after (set watts n w)
power-more n s at end watts after w h before p =
    let le : n ≤ n = omega arith in
    let one : PowersTaken (suc n) s at after (set watts n w) = (
      end,
      set-later n s at end watts n w le before,
      subst (λ (v : ℕ). PowerTaken s end after v) (sym (get_or-set_same watts n w 0 h)) p,
    ) in
    subst (λ (m : ℕ). PowersTaken m s at after (set watts n w)) (sym (add-one n)) one

-- the line of a time, three powers and its end
pub powers-line : (columns : Columns) (s : List ℕ) (at middle seconds : ℕ) (read : PowersRead) (next : ℕ) → PowersNamed columns → at + 44 ≤ length s
    → TimeTaken s at middle seconds → PowersOf s middle (Some read) → EndTaken s read.end next
    → (r : Option UsualRow) → UsualValues columns seconds read.powers next r → UsualOf columns s at r
powers-line columns s at middle seconds read next named room t (m₂, (m₁, (m₀, z, b), c), d) e r u =
    let b' : PowerTaken s middle m₁ read.powers.second = subst (λ (m : ℕ). PowerTaken s m m₁ read.powers.second) z b in
    usual-line columns s at middle m₁ m₂ read.end seconds read.powers next named room t b' c d e r u
