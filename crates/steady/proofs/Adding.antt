-- The sets of a mask one after the other as what a steady second adds is put beside them: at each place the sets before it have theirs,
-- and what was given is the part of their running total. Assumes nothing.
use Prim.Native.Nat.{ℕ, suc, ◌+◌, ◌-◌, ◌*◌, ◌/◌, ◌≤◌, ◌<◌, zero-le}
use mathlib.Core.Path.{◌≡◌, ap, ◌∙◌}
use mathlib.Core.Bool.{true, false}
use mathlib.Core.List.{List}
use native.Mathlib.Omega.{arith}
use native.Mathlib.Numerals.{add-one}
use native.Mathlib.Nat.{le_trans, mul-zero, mul-le-mul_left, zero-div, div-mul-le_self, le-div_iff_mul-le}
use lib.ListN.{length, get_or, set}
use lib.Seq.{set-get_or}
use Rattle.rules.specs.declared.station.GenSet.{GenSet}
use Rattle.rules.specs.Numbers.{sum_to, has}
use Rattle.rules.specs.StationRecord.{set_at}
use Rattle.rules.specs.Share.{running_total, capacity, share}
use Rattle.rules.specs.Fuel.{fuel_rate}
use Rattle.rules.proofs.StationFacts.{rating-range}
use Rattle.laws.proofs.Share.{share-most}
use Rattle.words.specs.Masks.{next_set}
use Rattle.words.proofs.Walk.{Place}
use Rattle.words.proofs.Weighed.{weighed-has, weighed-not, weighed-rises}
use Rattle.gensets.proofs.SharesWalk.{rating_of}
use Rattle.modes.proofs.Filled.{Filling, filling-start, filling-at, filling-more}
use Rattle.steady.specs.declared.curve_table.SetTable.{SetTable}
use Rattle.steady.specs.declared.steady_counts.Added.{Added}
use Rattle.steady.specs.Steady.{added_to, added_at, Addable}
use Rattle.steady.specs.CurveTable.{InRule, lines_of, Tabled}
use Rattle.set_moves.proofs.PassedBy.{to-next}

pub record Adding (sets : List GenSet) (mask diesel cap : ℕ) (old : List Added) (i given : ℕ) (added : List Added) : Type 0 where
  pub gave : given ≡ diesel * running_total sets mask i / cap
  pub filled : Filling (added_at sets mask diesel old) old 8 i added

module _ {sets : List GenSet} {mask diesel cap : ℕ} {old : List Added} (h : Addable sets mask diesel cap old) where
  module _ {given : ℕ} {added : List Added} where
    -- a set that the mask has not
    passed-by : (i : ℕ) → i < 8 → has mask i ≡ false → Adding sets mask diesel cap old i given added
        → Adding sets mask diesel cap old (suc i) given added
    unfolding running_total added_at
    passed-by i l none now =
        let e : added_to added i ≡ added_at sets mask diesel old i = filling-at _ _ 8 i added now.filled (record { energy = 0; fuel = 0 }) ∙ rw none in
        record {
          gave = now.gave ∙ rw (weighed-not (rating_of sets) mask i none);
          filled = rw (set-get_or, add-one i) at (filling-more _ _ 8 i added now.filled l (added_to added i) e);
        }

    up-to-next : (i : ℕ) → i ≤ 8 → Adding sets mask diesel cap old i given added → Adding sets mask diesel cap old (next_set mask i) given added
    up-to-next i l now = to-next mask (λ k. Adding sets mask diesel cap old k given added) passed-by i l now

  pub adding-start : length old ≡ 8 → Adding sets mask diesel cap old (next_set mask 0) 0 old
  unfolding running_total sum_to
  adding-start size = up-to-next 0 zero-le (record { gave = rw (mul-zero, zero-div); filled = filling-start _ _ 8 size })

  module _ {i given : ℕ} {added : List Added} (now : Adding sets mask diesel cap old i given added) (at : Place mask i) (l : i < 8) where
    on : has mask i ≡ true
    on = at.here l

    own : added_to added i ≡ added_to old i
    own = filling-at _ _ 8 i added now.filled (record { energy = 0; fuel = 0 })

    one_more : running_total sets mask (suc i) ≡ running_total sets mask i + rating_of sets i
    unfolding running_total
    one_more = weighed-has (rating_of sets) mask i on

    within-capacity : running_total sets mask (suc i) ≤ cap
    unfolding running_total capacity
    within-capacity =
        let e : suc i + (7 - i) ≡ 8 = omega arith in
        rw h.is-cap (rw e at (weighed-rises (rating_of sets) mask (suc i) (7 - i)))

    some-capacity : 0 < cap
    some-capacity = omega (arith, within-capacity, one_more, (rating-range (set_at sets i) (h.numbers i l on)).0)

    cap-small : cap ≤ 80_000_000
    cap-small = rw h.is-cap h.capacity-most

    pub rating-small : rating_of sets i ≤ 10_000_000
    rating-small = (rating-range (set_at sets i) (h.numbers i l on)).1

    pub energy-small : (added_to added i).energy ≤ 3_162_240_000_000_000
    energy-small = rw own (h.energies-most i l on)

    pub fuel-small : (added_to added i).fuel ≤ 4_743_360_000_000_000_000
    fuel-small = rw own (h.fuels-most i l on)

    -- the running total up to and with this set, as the table has it
    module _ {tables : List SetTable} (t : Tabled sets mask tables) (d : SetTable) where
      sum_is : (get_or tables i d).sum ≡ running_total sets mask (suc i)
      sum_is = ap (λ (k : SetTable). k.sum) (t.each i l on d)

      pub sum-small : (get_or tables i d).sum ≤ 80_000_000
      sum-small = rw sum_is (le_trans within-capacity cap-small)

      -- what the sets up to this one take together
      module _ {together : ℕ} (e : together ≡ diesel * (get_or tables i d).sum / cap) where
        pub given-rises : given ≤ together
        given-rises =
            let more : running_total sets mask i ≤ running_total sets mask (suc i) = omega (arith, one_more) in
            rw (e, now.gave, sum_is) ((le-div_iff_mul-le some-capacity).1 (le_trans (div-mul-le_self (diesel * running_total sets mask i) cap) (mul-le-mul_left diesel more)))

        takes-share : together - given ≡ share sets mask diesel i
        unfolding share
        takes-share = rw (e, now.gave, sum_is, h.is-cap)

        pub takes-rating : together - given ≤ rating_of sets i
        takes-rating = rw takes-share (share-most sets mask diesel h.diesel-most i)

        -- what reading its lines at that power gives
        module _ {rate : ℕ} (read : (g : GenSet) → InRule g → together - given ≤ g.rating → (get_or tables i d).lines ≡ lines_of g → (rate ≡ fuel_rate g (together - given)) × (rate ≤ 15_000_000_000)) where
          pub rate-is : (rate ≡ fuel_rate (set_at sets i) (together - given)) × (rate ≤ 15_000_000_000)
          rate-is =
              read (set_at sets i) (record { numbers = h.numbers i l on; pairs = h.pairs i l on }) takes-rating (ap (λ (k : SetTable). k.lines) (t.each i l on d))

          pub adding-more : Adding sets mask diesel cap old (next_set mask (i + 1)) together
              (set added i (record { energy = (added_to added i).energy + (together - given); fuel = (added_to added i).fuel + rate }))
          unfolding added_at
          adding-more =
              let p : record { energy = (added_to added i).energy + (together - given); fuel = (added_to added i).fuel + rate } ≡ added_at sets mask diesel old i = rw (rate-is.0, own, takes-share, on) in
              up-to-next (i + 1) (omega arith) (record { gave = rw (e, sum_is, add-one i); filled = filling-more _ _ 8 i added now.filled l _ p })
