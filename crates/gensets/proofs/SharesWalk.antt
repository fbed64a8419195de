-- The walk that hands out the diesel power: at each place the sets before it have their shares, the others have nothing, and what
-- was given is the part of their running total. Assumes nothing.
use Prim.Native.Nat.{ℕ, suc, ◌+◌, ◌-◌, ◌*◌, ◌/◌, ◌≤◌, ◌<◌, zero-le}
use mathlib.Core.Path.{◌≡◌, refl, sym, ◌∙◌}
use mathlib.Core.List.{List}
use mathlib.Core.Logic.{◌⊎◌, inl, inr}
use native.Mathlib.Omega.{arith}
use native.Mathlib.Decide.{dec_lt}
use native.Mathlib.Nat.{le_trans, lt_of_lt_of_le, eq-or-lt_of_le, mul-zero, mul-le-mul_left, zero-div, div-mul-le_self, le-div_iff_mul-le, ne_of_gt, ne_of_lt}
use lib.ListN.{length, get_or, set, replicate, length-set, get_or-replicate}
use lib.Seq.{get_or-set_same, get_or-set_other, ext_get_or}
use Rattle.rules.specs.declared.station.GenSet.{GenSet}
use Rattle.rules.specs.Numbers.{tab}
use Rattle.rules.specs.StationRecord.{set_at}
use Rattle.rules.specs.Share.{running_total, capacity, share}
use Rattle.rules.proofs.Tables.{length-tab, tab-at}
use Rattle.laws.proofs.Share.{share-outside, share-most}
use Rattle.words.specs.Masks.{next_set}
use Rattle.words.proofs.Walk.{Place, place, next-from, between}
use Rattle.words.proofs.Weighed.{weighed-has, weighed-rises, walk_start, walk_turn}
use Rattle.gensets.specs.Leaves.{Shareable}

-- the weight of a place
abbrev pub rating_of : List GenSet → ℕ → ℕ
rating_of sets i = (set_at sets i).rating

-- what the walk has done when it is at i
pub record Shared (sets : List GenSet) (mask diesel cap : ℕ) (out : List ℕ) (sum given i : ℕ) : Type 0 where
  pub at : Place mask i
  pub size : length out ≡ 8
  pub summed : sum ≡ running_total sets mask i
  pub gave : given ≡ diesel * sum / cap
  pub done : (k : ℕ) → k < i → get_or out k 0 ≡ share sets mask diesel k
  pub left : (k : ℕ) → i ≤ k → k < 8 → get_or out k 0 ≡ 0

module _ {sets : List GenSet} {mask diesel cap : ℕ} (asked : Shareable sets mask diesel cap) where
  pub started : Shared sets mask diesel cap (replicate 8 0) 0 0 (next_set mask 0)
  unfolding running_total
  started = record {
    at = first;
    size = refl;
    summed = sym (walk_start (rating_of sets) mask);
    gave = rw (mul-zero, zero-div);
    done = λ k l. get_or-replicate 8 k 0 0 (lt_of_lt_of_le l first.range) ∙ sym (share-outside sets mask diesel k (between mask 0 k zero-le l));
    left = λ k l h. get_or-replicate 8 k 0 0 h;
  }
    where
      first : Place mask (next_set mask 0)
      first = place mask 0 zero-le

  module _ {out : List ℕ} {sum given i : ℕ} (now : Shared sets mask diesel cap out sum given i) where
    pub ended : 8 ≤ i → out ≡ tab 8 (share sets mask diesel)
    ended h =
        ext_get_or 0 out (tab 8 (share sets mask diesel)) (now.size ∙ sym (length-tab (share sets mask diesel) 8))
        (λ k l. now.done k (omega (arith, now.size)) ∙ sym (tab-at (share sets mask diesel) 8 k 0 (omega (arith, now.size))))

    module _ (less : i < 8) where
      -- the running total past this set
      one_more : sum + rating_of sets i ≡ running_total sets mask (suc i)
      unfolding running_total
      one_more = rw now.summed (sym (weighed-has (rating_of sets) mask i (now.at.here less)))

      pub within-capacity : sum + rating_of sets i ≤ cap
      unfolding running_total capacity
      within-capacity =
          let e : suc i + (7 - i) ≡ 8 = omega arith in
          rw (one_more, asked.is-capacity) (rw e at (weighed-rises (rating_of sets) mask (suc i) (7 - i)))

      pub given-rises : given ≤ diesel * (sum + rating_of sets i) / cap
      given-rises =
          let some : 0 < cap = omega (arith, asked.some, asked.allowed) in
          let more : sum ≤ sum + rating_of sets i = omega arith in
          rw now.gave ((le-div_iff_mul-le some).1 (le_trans (div-mul-le_self (diesel * sum) cap) (mul-le-mul_left diesel more)))

      -- what the set at i takes
      pub takes-share : diesel * (sum + rating_of sets i) / cap - given ≡ share sets mask diesel i
      unfolding share
      takes-share = rw (now.gave, one_more, now.summed, asked.is-capacity)

      pub takes-rating : diesel * (sum + rating_of sets i) / cap - given ≤ rating_of sets i
      takes-rating = rw takes-share (share-most sets mask diesel (rw (← asked.is-capacity) asked.allowed) i)

      -- it takes its share, and the places up to the next set take nothing
      pub turned : Shared sets mask diesel cap (set out i (diesel * (sum + rating_of sets i) / cap - given)) (sum + rating_of sets i)
          (diesel * (sum + rating_of sets i) / cap) (next_set mask (i + 1))
      unfolding running_total
      turned = record {
        at = place mask (i + 1) (omega arith);
        size = length-set out i v ∙ now.size;
        summed = rw now.summed (sym (walk_turn (rating_of sets) mask i now.at less));
        gave = refl;
        done = before;
        left = λ k l h. get_or-set_other out i k v 0 (ne_of_gt (omega (arith, onward))) ∙ now.left k (omega (arith, onward)) h;
      }
        where
          v : ℕ
          v = diesel * (sum + rating_of sets i) / cap - given

          onward : i + 1 ≤ next_set mask (i + 1)
          onward = next-from mask (i + 1)

          past : (k : ℕ) → i < k → k < next_set mask (i + 1) → get_or (set out i v) k 0 ≡ share sets mask diesel k
          past k a l =
              get_or-set_other out i k v 0 (ne_of_gt a) ∙ now.left k (omega arith) (lt_of_lt_of_le l (place mask (i + 1) (omega arith)).range)
              ∙ sym (share-outside sets mask diesel k (between mask (i + 1) k (omega arith) l))

          before : (k : ℕ) → k < next_set mask (i + 1) → get_or (set out i v) k 0 ≡ share sets mask diesel k
          before k l = cases (dec_lt k i)
            where
              upward : (i ≡ k) ⊎ (i < k) → get_or (set out i v) k 0 ≡ share sets mask diesel k
              upward (inl e) = rw (← e) (get_or-set_same out i v 0 (omega (arith, now.size)) ∙ takes-share)
              upward (inr a) = past k a l

              cases : Dec (k < i) → get_or (set out i v) k 0 ≡ share sets mask diesel k
              cases (yes a) = get_or-set_other out i k v 0 (ne_of_lt a) ∙ now.done k a
              cases (no a) = let u : i ≤ k = omega (arith, a) in upward (eq-or-lt_of_le u)
