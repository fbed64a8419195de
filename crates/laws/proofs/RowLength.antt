-- "row buffer under 256 bytes" is refused, and no row needs as many: the row of an admitted second has at most 153. Assumes nothing.
use Prim.Native.Nat.{ℕ, ◌+◌, ◌*◌, ◌^◌, ◌≤◌, ◌<◌}
use mathlib.Core.List.{List, [], ◌∷◌, ◌++◌}
use native.Mathlib.Omega.{arith}
use lib.Count.{ones-le}
use lib.ListN.{length, take, get_or, length-append}
use borrow.Author.Tests.{leb-true}
use Rattle.rules.specs.declared.station.Station.{Station}
use Rattle.rules.specs.declared.run.Inputs.{Inputs}
use Rattle.rules.specs.declared.run.Row.{Row}
use Rattle.rules.specs.declared.run.Run.{Run}
use Rattle.rules.specs.Bytes.{LF, comma, decimal, comma_line}
use Rattle.rules.specs.Modes.{on_mask}
use Rattle.rules.specs.RunRecord.{record_rules, possible}
use Rattle.rules.specs.Row.{columns, row_text}
use Rattle.rules.specs.Second.{on_now, cap_now, floor_now, watts_now, store_now, call_now, record_after, row_after, step}
use Rattle.rules.proofs.Decimals.{digits-32, digits-64}
use Rattle.rules.proofs.LittleEndian.{AllBelow}
use Rattle.rules.proofs.Masks.{mask_below}
use Rattle.rules.proofs.Shapes.{Tables}
use Rattle.rules.proofs.StationFacts.{right_of, content-most}
use Rattle.rules.proofs.Tests.{all-at, within-fact}
use Rattle.laws.specs.Admitted.{Admitted}
use Rattle.laws.proofs.Kept.{record-kept}
use Rattle.laws.proofs.KeptRest.{watts-small}

-- ---- a line of numbers of 32 bits and a last one of 64

line-most : (xs : List ℕ) (x : ℕ) → AllBelow (2 ^ 32) xs → x < 2 ^ 64 → length (comma_line (xs ++ (x ∷ []))) ≤ 11 * length xs + 21
unfolding comma_line
line-most [] x h k = omega (arith, length-append (decimal x) (LF ∷ []), digits-64 x k)
line-most (y ∷ []) x h k =
    omega (arith, length-append (decimal y) (comma ∷ comma_line (x ∷ [])), digits-32 y h.0, line-most [] x tt k)
line-most (y ∷ z ∷ xs) x h k =
    omega (arith, length-append (decimal y) (comma ∷ comma_line (z ∷ xs ++ (x ∷ []))), digits-32 y h.0, line-most (z ∷ xs) x h.1 k)

-- a row's numbers but the store
abbrev before_store : Row → List ℕ
before_store r = take 12 (columns r)

row-most : (r : Row) → AllBelow (2 ^ 32) (before_store r) → r.store < 2 ^ 64 → length (row_text r) ≤ 153
unfolding row_text
row-most r h k = line-most (before_store r) r.store h k

-- ---- an admitted second

module _ (st : Station) (tables : Tables st) (r : Run) (x : Inputs) (h : Admitted st r x) where
  on-small : on_now st r < 256
  unfolding on_now on_mask
  on-small = mask_below 8 _

  -- what is asked of the record after it
  call-small : call_now st r x (watts_now st r x) ≤ 64
  unfolding possible record_after
  call-small =
      let l : call_now st r x (watts_now st r x) ≤ st.configcount = leb-true (call_now st r x (watts_now st r x)) st.configcount (all-at (record_rules st (record_after st r x (watts_now st r x))) 2 (record-kept st tables r x h)) in
      omega (arith, l, (right_of st h.station-given).configcount)

  store-small : store_now st r (watts_now st r x) ≤ 10_000_000_000_000
  unfolding possible record_after
  store-small =
      let within = within-fact st.battery.least st.battery.most (store_now st r (watts_now st r x)) (all-at (record_rules st (record_after st r x (watts_now st r x))) 1 (record-kept st tables r x h)) in
      omega (arith, within.1, content-most st.battery (right_of st h.station-given).battery)

  pub row-length : length (row_text (step st r x).row) ≤ 153
  unfolding step row_after watts_now
  row-length =
      let w = watts-small st.battery r.store (cap_now st r) (floor_now st r) (get_or r.decided 0 0) x h.load-most h.solar-most h.sheddable-most in
      row-most (step st r x).row
      (omega (arith, h.not-ended), (omega (arith, w.load), (omega (arith, w.shed), (omega (arith, w.solar), (omega (arith, w.charge), (omega (arith, w.spill), (omega (arith, w.give), (omega (arith, w.diesel), (omega (arith, w.unserved), (omega (arith, on-small), (omega (arith, ones-le 8 (on_now st r) on-small), (omega (arith, call-small), tt))))))))))))
      (omega (arith, store-small))
