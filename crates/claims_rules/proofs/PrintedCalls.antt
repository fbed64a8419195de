-- The printed text is that of every list of calls of the sample file's seconds from the start: the heading, the rows that they wrote, and the
-- sets' lines of the record last handed back. Assumes nothing.
use Prim.Native.Nat.{ℕ, zero, suc, ◌+◌, ◌≤◌, ◌<◌}
use mathlib.Core.Path.{◌≡◌, refl, sym, ap, ◌∙◌, subst}
use mathlib.Core.Bool.{true}
use mathlib.Core.List.{List, ◌∷◌, ◌++◌, map, append_assoc}
use native.Mathlib.Omega.{arith}
use lib.ListN.{length, take, drop, get_or}
use borrow.Author.Tests.{le-leb, lt-ltb}
use Rattle.rules.specs.declared.station.Station.{Station}
use Rattle.rules.specs.declared.samples.Sample.{Sample}
use Rattle.rules.specs.declared.run.Inputs.{Inputs}
use Rattle.rules.specs.declared.run.Run.{Run}
use Rattle.rules.specs.declared.run.Step.{Step}
use Rattle.rules.specs.Answers.{Answer, accepted, ◌>>◌}
use Rattle.rules.specs.StationRecord.{some_file_gives}
use Rattle.rules.specs.SampleFile.{sample_file, sample_at}
use Rattle.rules.specs.RunRecord.{most_seconds, possible}
use Rattle.rules.specs.Row.{row_text, set_heading, set_lines}
use Rattle.rules.specs.Second.{step, inputs_right, admitted, record_handed}
use Rattle.rules.specs.Run.{inputs_of, rows_from}
use Rattle.rules.specs.Calls.{Call, Chained, none, more}
use Rattle.rules.proofs.Shapes.{Tables}
use Rattle.laws.specs.Admitted.{Admitted}
use Rattle.claims_rules.specs.Claim.{told, row_by}
use Rattle.claims_rules.specs.Printed.{inputs_from, text_by, row_bytes, Roomy}
use Rattle.claims_rules.proofs.Calls.{Owes, hands, told_here}
use Rattle.claims_rules.proofs.Printed.{admitted-at, kept_on, done-is}

-- an admitted second with room is accepted
admits : (st : Station) (r : Run) (x : Inputs) (room : ℕ) → Admitted st r x → 256 ≤ room → admitted r.done x room ≡ accepted tt
unfolding admitted
admits st r x room h fits =
    let limits : inputs_right x ≡ true = rw (le-leb _ _ h.load-most, le-leb _ _ h.solar-most, le-leb _ _ h.sheddable-most) in
    rw (lt-ltb _ _ h.not-ended, limits, le-leb _ _ h.sheddable-load, le-leb _ _ fits)

module _ (st : Station) (given : some_file_gives st ≡ true) (tables : Tables st) (file : List ℕ) (samples : List Sample) (read : sample_file file ≡ accepted samples) where
  abbrev sets : Run → List ℕ
  sets last = set_heading ++ set_lines 0 (take st.setcount last.sets)

  -- one call of the second t
  module _ (t : ℕ) (r last : Run) (c : Call) (cs : List Call) (h : possible st r ≡ true) (e : r.done ≡ t) (l : t < most_seconds) (o : Owes st r c) (fits : 256 ≤ length c.lent)
      (is : c.inputs ≡ inputs_of (sample_at samples t)) where
    abbrev worked : Step
    worked = step st r c.inputs

    right : Admitted st r c.inputs
    right = subst (Admitted st r) (sym is) (admitted-at st given tables file samples read t r h e l)

    accepts : admitted r.done c.inputs (length c.lent) ≡ accepted tt
    accepts = admits st r c.inputs (length c.lent) right fits

    writes : told c ≡ accepted (row_text worked.row)
    writes = told_here st given tables r last c cs h o ∙ ap (λ (a : Answer (Unit {0})). row_by (a >> accepted worked)) accepts

    leads : c.handed.run ≡ worked.run
    leads = hands st given tables r last c cs h o ∙ ap (λ (a : Answer (Unit {0})). record_handed r (a >> accepted worked)) accepts

    goes_on : possible st c.handed.run ≡ true
    goes_on = ap (possible st) leads ∙ kept_on st given tables file samples read r c.inputs right

    one_more : c.handed.run.done ≡ suc t
    one_more = ap (λ (q : Run). q.done) leads ∙ done-is st given tables file samples read r c.inputs ∙ (let z : r.done + 1 ≡ suc t = omega arith in z)

    rows_on : (n : ℕ) → rows_from st samples n c.handed.run ≡ row_bytes cs ++ sets last → rows_from st samples (suc n) r ≡ row_bytes (c ∷ cs) ++ sets last
    unfolding rows_from row_bytes
    rows_on n later =
        ap (λ (x : Inputs). row_text (step st r x).row ++ rows_from st samples n (step st r x).run) (ap (λ (d : ℕ). inputs_of (sample_at samples d)) e ∙ sym is)
        ∙ ap (λ (q : Run). row_text worked.row ++ rows_from st samples n q) (sym leads)
        ∙ ap (λ (z : List ℕ). row_text worked.row ++ z) later
        ∙ sym (append_assoc (row_text worked.row) (row_bytes cs) (sets last))
        ∙ ap (λ (a : Answer (List ℕ)). text_by a (row_bytes cs) ++ sets last) (sym writes)

  pub rows-of-calls : (n t : ℕ) {r last : Run} {calls : List Call} → possible st r ≡ true → r.done ≡ t → t + n ≤ most_seconds → Chained (Owes st) r calls last
      → map (λ c. c.inputs) calls ≡ inputs_from samples t n → Roomy calls → rows_from st samples n r ≡ row_bytes calls ++ sets last
  unfolding rows_from row_bytes inputs_from
  rows-of-calls zero t h e l none same roomy = refl
  rows-of-calls zero t h e l (more o rest) same roomy = absurd (let z = ap length same in omega arith)
  rows-of-calls (suc n) t h e l none same roomy = absurd (let z = ap length same in omega arith)
  rows-of-calls (suc n) t {r} {last} h e l (more {c = c} {cs = cs} o rest) same roomy =
      let is : c.inputs ≡ inputs_of (sample_at samples t) = ap (λ (xs : List Inputs). get_or xs 0 c.inputs) same in
      let k : t < most_seconds = omega arith in
      rows_on t r last c cs h e k o roomy.0 is n
      (rows-of-calls n (suc t) (goes_on t r last c cs h e k o roomy.0 is) (one_more t r last c cs h e k o roomy.0 is) (omega arith) rest (ap (drop 1) same) roomy.1)
