-- THE THEOREM of demand 3 of the printed text. All that is known of a call is what the function's own contract says. Assumes nothing.
use Rattle.std.specs.Prelude.{Ok}
use Prim.Native.Nat.{ℕ}
use mathlib.Core.Path.{◌≡◌, refl, ap, ◌∙◌}
use mathlib.Core.List.{List, [], ◌∷◌, ◌++◌, map}
use native.Mathlib.Omega.{arith}
use lib.ListN.{length, drop, get_or, replicate}
use Rattle.rules.specs.declared.station.Station.{Station}
use Rattle.rules.specs.declared.samples.Sample.{Sample}
use Rattle.rules.specs.declared.run.Inputs.{Inputs}
use Rattle.rules.specs.declared.run.Run.{Run}
use Rattle.rules.specs.Answers.{accepted}
use Rattle.rules.specs.StationFile.{station_file}
use Rattle.rules.specs.SampleFile.{sample_file}
use Rattle.rules.specs.RunRecord.{start_record}
use Rattle.rules.specs.Row.{row_heading}
use Rattle.rules.specs.Run.{seconds_asked, printed}
use Rattle.rules.specs.Calls.{Call, Chained}
use Rattle.rules.proofs.Start.{start-possible}
use Rattle.records.specs.declared.start.Started.{Started}
use Rattle.claims_rules.specs.Printed.{inputs_from, text_of, Roomy, CallsOf}
use Rattle.claims_rules.proofs.Calls.{Owes}
use Rattle.claims_rules.proofs.Printed.{asked-most, text-is, printed-claim}
use Rattle.claims_rules.proofs.PrintedCalls.{rows-of-calls}
use Rattle.claims.specs.Functions.{ReadBy, StartedBy, CalledBy}
use Rattle.claims.specs.Demand3.{Lent, lent_to}
use Rattle.claims.specs.Printed.{handed_of, Made, PrintedDemand3}
use Rattle.claims.proofs.FromFile.{calls-owe, Begun, begun}
use Rattle.claims.proofs.Exists.{exists}

-- ---- the text is that of the calls

first_done : (st : Station) → (start_record st).done ≡ 0
unfolding start_record
first_done st = refl

of_calls : (station samples seconds : List ℕ) (st : Station) (s : Started) (rows : List Sample) (n : ℕ) (calls : List Call) (last : Run)
    → ReadBy station (Ok st) → StartedBy st s → sample_file samples ≡ accepted rows → seconds_asked seconds ≡ accepted n
    → Chained (CalledBy st) s.run calls last → CallsOf rows n calls
    → printed station samples seconds ≡ text_of st calls last
of_calls station samples seconds st s rows n calls last read starts sampled asked chained of =
    let b : Begun station st s = begun station st s read starts in
    let first : s.run ≡ start_record st = b.from-file.record-started in
    let owed : Chained (Owes st) (start_record st) calls last = rw first at (calls-owe st chained) in
    text-is station samples seconds st rows n b.from-file.station-read sampled asked
    ∙ ap (λ (text : List ℕ). row_heading ++ text)
    (rows-of-calls st b.given b.tables samples rows sampled n 0 (start-possible st b.given) (first_done st) (omega (arith, asked-most seconds n asked)) owed of.as-sampled of.roomy)

-- ---- such a list exists

handed-back : (xs : List Inputs) (calls : List Call) → map lent_to calls ≡ handed_of xs → (map (λ c. c.inputs) calls ≡ xs) × Roomy calls
handed-back [] [] same = (refl, tt)
handed-back [] (c ∷ cs) same = absurd (let z = ap length same in omega arith)
handed-back (x ∷ xs) [] same = absurd (let z = ap length same in omega arith)
handed-back (x ∷ xs) (c ∷ cs) same =
    let head : lent_to c ≡ record { inputs = x; lent = replicate 256 0 } = ap (λ (ls : List Lent). get_or ls 0 (lent_to c)) same in
    let later = handed-back xs cs (ap (drop 1) same) in
    let size : length c.lent ≡ 256 = ap (λ (l : Lent). length l.lent) head in (
      ap (λ (z : List Inputs). c.inputs ∷ z) later.0 ∙ ap (λ (z : Inputs). z ∷ xs) (ap (λ (l : Lent). l.inputs) head),
      (omega (arith, size), later.1),
    )

calls-exist : (station : List ℕ) (st : Station) (rows : List Sample) (n : ℕ) → station_file station ≡ accepted st → Made station rows n
calls-exist station st rows n h =
    let made = exists station st h (handed_of (inputs_from rows 0 n)) in
    let back = handed-back (inputs_from rows 0 n) made.calls made.as-handed in
    record { realised = made; calls-of = record { as-sampled = back.0; roomy = back.1 } }

pub printed-demand-3 : PrintedDemand3
printed-demand-3 = record { text-holds = printed-claim; of_calls = of_calls; calls-exist = calls-exist }
