-- The table as it is filled: set after set along the mask's walk comes to stand in it, and what stands there stays. Assumes nothing.
use Prim.Native.Nat.{ℕ, suc, ◌+◌, ◌*◌, ◌≤◌, ◌<◌, zero-le}
use mathlib.Core.Path.{◌≡◌, sym, ◌∙◌}
use mathlib.Core.Bool.{true}
use mathlib.Core.List.{List}
use mathlib.Core.Logic.{◌⊎◌, inl, inr}
use native.Mathlib.Omega.{arith}
use native.Mathlib.Nat.{ne_of_lt, eq-or-lt_of_le}
use native.Mathlib.Decide.{dec_lt}
use lib.ListN.{length, get_or, set, length-set}
use lib.Seq.{get_or-set_same, get_or-set_other}
use Rattle.rules.specs.declared.station.GenSet.{GenSet}
use Rattle.rules.specs.Numbers.{has}
use Rattle.rules.specs.StationRecord.{set_at}
use Rattle.rules.specs.Share.{running_total}
use Rattle.rules.proofs.Tests.{never}
use Rattle.words.specs.Masks.{next_set}
use Rattle.words.proofs.Walk.{Place, next-from, between}
use Rattle.words.proofs.Weighed.{weighed-has, walk_start, walk_turn}
use Rattle.gensets.specs.declared.line.Line.{Line}
use Rattle.gensets.proofs.SharesWalk.{rating_of}
use Rattle.steady.specs.declared.curve_table.SetTable.{SetTable}
use Rattle.steady.specs.CurveTable.{lines_of, table_at, Tabled}

-- of the sets before a place
pub record Tabling (sets : List GenSet) (mask i sum : ℕ) (tables : List SetTable) : Type 0 where
  pub size : length tables ≡ 8
  pub total : sum ≡ running_total sets mask i
  pub few : sum ≤ i * 4_294_967_295
  pub each : (k : ℕ) → k < i → has mask k ≡ true → (d : SetTable) → get_or tables k d ≡ table_at sets mask k

pub tabling-start : (sets : List GenSet) (mask : ℕ) (tables : List SetTable) → length tables ≡ 8 → Tabling sets mask (next_set mask 0) 0 tables
unfolding running_total
tabling-start sets mask tables h = record { size = h; total = sym (walk_start (rating_of sets) mask); few = zero-le; each = λ k l e. never (sym (between mask 0 k zero-le l) ∙ e) }

module _ {sets : List GenSet} {mask i sum : ℕ} {tables : List SetTable} (now : Tabling sets mask i sum tables) where
  pub tabled : 8 ≤ i → Tabled sets mask tables
  tabled u = record { each = λ k l. now.each k (omega arith) }

  module _ (at : Place mask i) (less : i < 8) where
    one_more : sum + rating_of sets i ≡ running_total sets mask (suc i)
    unfolding running_total
    one_more = rw now.total (sym (weighed-has (rating_of sets) mask i (at.here less)))

    pub tabling-more : sum + rating_of sets i ≤ (i + 1) * 4_294_967_295 → (lines : List Line) → lines ≡ lines_of (set_at sets i)
        → Tabling sets mask (next_set mask (i + 1)) (sum + rating_of sets i) (set tables i (record { sum = sum + rating_of sets i; lines = lines }))
    unfolding running_total
    tabling-more few lines e = record {
      size = length-set tables i _ ∙ now.size;
      total = rw now.total (sym (walk_turn (rating_of sets) mask i at less));
      few = omega (arith, few, next-from mask (i + 1));
      each = λ k l h d. a-table k h d (up_to k l h);
    }
      where
        -- past this set the walk meets none before the next
        up_to : (k : ℕ) → k < next_set mask (i + 1) → has mask k ≡ true → (k ≡ i) ⊎ (k < i)
        up_to k l h = cases (dec_lt i k)
          where
            cases : Dec (i < k) → (k ≡ i) ⊎ (k < i)
            cases (yes p) = never (sym (between mask (i + 1) k (omega arith) l) ∙ h)
            cases (no p) = let u : k ≤ i = omega (arith, p) in eq-or-lt_of_le u

        a-table : (k : ℕ) → has mask k ≡ true → (d : SetTable) → (k ≡ i) ⊎ (k < i) → get_or (set tables i (record { sum = sum + rating_of sets i; lines = lines })) k d ≡ table_at sets mask k
        a-table k h d (inl z) = rw z (get_or-set_same tables i _ d (omega (arith, now.size)) ∙ rw (one_more, e))
        a-table k h d (inr l) = get_or-set_other tables i k _ d (ne_of_lt l) ∙ now.each k l h d
