-- THE THEOREM of the run, of the functions themselves: for every way in which both files arrive in chunks, empty ones included, and the
-- output leaves in lent buffers of at least 256 bytes, the bytes handed over, in order, are those that document 01's definition prints.
-- All that is known of a call is what the function's own contract ensures. Assumes nothing but what the hypotheses say: both passes
-- over the sample file read the same bytes, fewer than 2^64.
use Rattle.std.specs.Prelude.{Result}
use Prim.Native.Nat.{ℕ, ◌≤◌}
use mathlib.Core.Path.{◌≡◌, refl, sym, ap, ◌∙◌, subst}
use mathlib.Core.Bool.{Bool}
use mathlib.Core.List.{List, [], ◌∷◌, ◌++◌}
use native.Mathlib.Omega.{arith}
use lib.ListN.{length}
use mir.Val.{Val}
use borrow.Fn.Kinds as kinds
use contract.Lifetimes.{Lfts}
use denote.Laws.{Is}
use denote.Struct.Declared.{row}
use denote.Struct.Laws.{val, tells}
use denote.Triple.Clauses as clauses
use Rattle.rules.specs.declared.answers.Refusal.{Refusal}
use Rattle.rules.specs.declared.station.Station.{Station}
use Rattle.rules.specs.Bytes.{AreBytes, SliceHeld}
use Rattle.rules.specs.Answers.{Answer, accepted, refused, result_of}
use Rattle.rules.specs.StationFile.{station_file}
use Rattle.rules.specs.Run.{seconds_asked, printed}
use Rattle.station.specs.declared.chunks.StationBytes.{StationBytes}
use Rattle.station.specs.Stations.{station_with}
use Rattle.station.proofs.StationChunks as stations
use Rattle.samples.specs.declared.check.Span.{Span}
use Rattle.samples.specs.declared.check.SampleCheck.{SampleCheck}
use Rattle.sheet_stages.specs.ToCome.{most_place}
use Rattle.samples.specs.Streamed.{sheet_span}
use Rattle.rules.specs.Chunks.{joined, Feeds}
use Rattle.samples.proofs.CheckLaws.{span-place}
use Rattle.samples.proofs.Chunks as checks
use Rattle.run_phases.specs.declared.state.Phase.{Phase}
use Rattle.run_phases.specs.declared.state.Simulation.{Simulation}
use Rattle.run_phases.specs.declared.state.Turn.{Turn}
use Rattle.rules.specs.Row.{row_heading}
use Rattle.run_texts.specs.Rows.{rows_with}
use Rattle.run_texts.specs.Text.{text_of}
use Rattle.run_texts.specs.Coming.{ComesIn}
use Rattle.simulation.specs.Calls.{Called}
use Rattle.run_phases.specs.Begin.{BegunAs}
use Rattle.simulation.specs.Program.{Calls, Prints, most_calls, SlicesHeld, HeldByTypes, Answered, Whole}
use Rattle.run_texts.proofs.Printed.{Starts, CheckedFor, begins-right}
use Rattle.simulation.proofs.Program.{calls-print, OfSome, some-inputs, calls-end}
use Rattle.run_phases.specs.contracts.state.Simulation.{the_type}
use Rattle.run_phases.proofs.state.Simulation.TheLaws.{the_laws}
use Rattle.run_phases.proofs.begin.begin.Reads as begin-reads
use Rattle.run_phases.proofs.begin.begin.Kinds as begin-kinds
use Rattle.simulation.proofs.advance.advance.Reads as advance-reads
use Rattle.simulation.proofs.advance.advance.Kinds as advance-kinds

-- ---- calls of which only what their contracts ensure is known

-- `begin` was handed the station's bytes, the check's answer and the seconds asked, and gave s
pub record BegunBy (file : StationBytes) (checked : Result Span Refusal) (asked : List ℕ) (s : Simulation) : Type 0 where
  pub κs : Lfts 1
  pub args : kinds.Dens κs begin-kinds.ps
  pub exit : clauses.AtExit (kinds.ended_of 1 begin-kinds.ps begin-kinds.r) κs
  pub passed : (args.0 ≡ file) × (args.1.0 ≡ checked) × (args.1.1.0.now ≡ asked)
  pub returned : begin-reads.Post κs args s exit

-- `advance` was handed s, a chunk from a place on, whether the file has ended, and a lent buffer, and gave r and the buffer as it is left
pub record CalledBy (s : Simulation) (chunk : List ℕ) (at : ℕ) (ended : Bool) (lent : List ℕ) (r : Turn) (left : List ℕ) : Type 0 where
  pub κs : Lfts 2
  pub args : kinds.Dens κs advance-kinds.ps
  pub exit : clauses.AtExit (kinds.ended_of 2 advance-kinds.ps advance-kinds.r) κs
  pub passed : (args.0 ≡ s) × (args.1.0.now ≡ chunk) × (args.1.1.0 ≡ at) × (args.1.1.1.0 ≡ ended) × (args.1.1.1.1.0.now ≡ lent)
  pub returned : advance-reads.Post κs args r exit
  pub seen : exit.1.1.1.1.0.now ≡ left

begun-owes : (file : StationBytes) (checked : Result Span Refusal) (asked : List ℕ) (s : Simulation) → BegunBy file checked asked s → BegunAs (station_with file []) (result_of checked) (seconds_asked asked) s
begun-owes file checked asked s e =
    let p : BegunAs (station_with e.args.0 []) (result_of e.args.1.0) (seconds_asked e.args.1.1.0.now) s = e.returned in
    rw (e.passed.0, e.passed.1, e.passed.2) at p

called-owes : {s : Simulation} {chunk : List ℕ} {at : ℕ} {ended : Bool} {lent : List ℕ} {r : Turn} {left : List ℕ} → CalledBy s chunk at ended lent r left → Called s chunk at ended lent r left
called-owes {r = r} e =
    let p : Called e.args.0 e.args.1.0.now e.args.1.1.0 e.args.1.1.1.0 e.args.1.1.1.1.0.now r e.exit.1.1.1.1.0.now = e.returned in
    rw (e.passed.0, e.passed.1, e.passed.2, e.passed.3, e.passed.4, e.seen) at p

calls-owe : {s last : Simulation} {at n : ℕ} {chunks : List (List ℕ)} {out : List ℕ} → Calls CalledBy s at chunks n out last → Calls Called s at chunks n out last
calls-owe Calls.none = Calls.none
calls-owe (Calls.room r lent left c roomy w more) = Calls.room r lent left (called-owes c) roomy w (calls-owe more)
calls-owe (Calls.input r lent left c roomy w more) = Calls.input r lent left (called-owes c) roomy w (calls-owe more)
calls-owe (Calls.over r lent left c roomy w) = Calls.over r lent left (called-owes c) roomy w

-- ---- the start, from the chunks of the station file and what the check of the samples answered

checked-for : (a : Answer Station) (checked : Answer Span) (samples : List ℕ) → checked ≡ sheet_span samples → CheckedFor a checked samples
checked-for (accepted st) checked samples e = e
checked-for (refused n p) checked samples e = tt

module _ (chunks : List (List ℕ)) (asked : List ℕ) (f₀ f : StationBytes) (v : Result Span Refusal) (s : Simulation)
    (begun : stations.Begun f₀) (fed : Feeds stations.Fed f₀ chunks f) (b : BegunBy f v asked s) where
  abbrev station : List ℕ
  station = joined chunks

  begun-with : BegunAs (station_file station) (result_of v) (seconds_asked asked) s
  begun-with = subst (λ (a : Answer Station). BegunAs a (result_of v) (seconds_asked asked) s) (stations.station-of-chunks chunks f₀ f begun fed) (begun-owes f v asked s b)

  starts : (samples : List ℕ) → CheckedFor (station_file station) (result_of v) samples → Starts s samples (printed station samples asked)
  starts samples c = begins-right station samples asked (result_of v) s c begun-with

  -- ---- THE THEOREM: both files to their ends, and the samples twice

  pub run-prints : (pass_one pass_two : List (List ℕ)) (c₀ c : SampleCheck) (n : ℕ) (out : List ℕ) (last : Simulation) → checks.Begun c₀ → Feeds checks.Fed c₀ pass_one c → checks.Finished c v
      → Calls CalledBy s 0 pass_two n out last → length (joined pass_one) ≤ most_place → joined pass_two ≡ joined pass_one
      → Prints (printed station (joined pass_one) asked) (most_calls s pass_two) n out last
  run-prints pass_one pass_two c₀ c n out last cb cf ce calls small same =
      let checked = (checks.check-streamed pass_one c₀ c v small cb cf ce).0 in
      let st = starts (joined pass_one) (checked-for (station_file station) (result_of v) (joined pass_one) checked) in
      calls-print (subst (λ (l : List ℕ). Starts s l (printed station (joined pass_one) asked)) (sym same) st) (calls-owe calls)

  -- ---- a refusal needs no second pass, and the rest of a refused sample file no first one

  refusal-starts : (samples other text : List ℕ) (refusal : Refusal) → s.phase ≡ Phase.Refusal refusal → Starts s samples text → Starts s other text
  refusal-starts samples other text refusal e st =
      record {
        inputs = st.inputs;
        come = subst (λ (p : Phase). ComesIn p s other st.inputs) (sym e) (subst (λ (p : Phase). ComesIn p s samples st.inputs) e st.come);
        text-is = st.text-is;
      }

  pub refusal-prints : (samples : List ℕ) (chunks₂ : List (List ℕ)) (refusal : Refusal) (n : ℕ) (out : List ℕ) (last : Simulation) → s.phase ≡ Phase.Refusal refusal → CheckedFor (station_file station) (result_of v) samples
      → Calls CalledBy s 0 chunks₂ n out last → Prints (printed station samples asked) (most_calls s chunks₂) n out last
  refusal-prints samples chunks₂ refusal n out last e c calls =
      calls-print (refusal-starts samples (joined chunks₂) (printed station samples asked) refusal e (starts samples c)) (calls-owe calls)

  -- a check that stopped at a refused line answers for the whole file, whatever its rest is
  pub cut_short : (pass_one : List (List ℕ)) (rest : List ℕ) (c₀ c : SampleCheck) → checks.Begun c₀ → Feeds checks.Fed c₀ pass_one c → checks.ToldRefused c → checks.Finished c v
      → length (joined pass_one ++ rest) ≤ most_place → CheckedFor (station_file station) (result_of v) (joined pass_one ++ rest)
  cut_short pass_one rest c₀ c cb cf ct ce small =
      checked-for (station_file station) (result_of v) (joined pass_one ++ rest) (checks.check-cut-short pass_one rest c₀ c v cb cf ct ce ∙ span-place (joined pass_one ++ rest) small)

  -- ---- where the second pass reads other bytes: what is handed over is how the text of some inputs begins, one for each second asked

  pub other-bytes : (pass_two : List (List ℕ)) (at n : ℕ) (out : List ℕ) (last : Simulation) → Calls CalledBy s at pass_two n out last → OfSome s out
  other-bytes pass_two at n out last calls = some-inputs (calls-owe calls)

  -- for a run that is not refused these are the heading, the rows of those seconds and the sets' lines: no refusal stands among the rows
  pub rows-alone : (pass_two : List (List ℕ)) (n : ℕ) (out : List ℕ) (last : Simulation) → s.phase ≡ Phase.Heading → (calls : Calls CalledBy s 0 pass_two n out last)
      → row_heading ++ rows_with s.course.station (other-bytes pass_two 0 n out last calls).inputs s.course.run ≡ out ++ (other-bytes pass_two 0 n out last calls).later
  unfolding text_of
  rows-alone pass_two n out last e calls =
      let o = other-bytes pass_two 0 n out last calls in
      sym (ap (λ (p : Phase). text_of p s.course.station s.course.run o.inputs) e) ∙ o.begins

-- ---- and they come to an end: where each call of `advance` that is handed what its types can hold is answered

-- a run that machine values of its type mean
abbrev pub RunHeld : Simulation → Type 0
RunHeld s = Is (row the_type) s (val the_type the_laws s ∷ [])

-- what the types of `advance` can hold is what the logic knows of its arguments, with slices of bytes
pub held-of-good : (κs : Lfts 2) (args : kinds.Dens κs advance-kinds.ps) → kinds.GoodsP κs advance-kinds.ps args → AreBytes args.1.0.now → AreBytes args.1.1.1.1.0.now
    → HeldByTypes RunHeld args.0 args.1.0.now args.1.1.0 args.1.1.1.1.0.now
held-of-good κs args good chunk lent =
    record {
      run = good.0;
      chunk-held = record { few = omega (arith, good.1.0.1); are = chunk };
      place = good.1.1.0.1;
      lent-held = record { few = omega (arith, good.1.1.1.1.0.1); are = lent };
    }

pub good-of-held : (κs : Lfts 2) (args : kinds.Dens κs advance-kinds.ps) → HeldByTypes RunHeld args.0 args.1.0.now args.1.1.0 args.1.1.1.1.0.now → kinds.GoodsP κs advance-kinds.ps args
good-of-held κs args h =
    (h.run, ((omega (arith, h.chunk-held.few), omega (arith, h.chunk-held.few)), ((refl, h.place), (refl, ((omega (arith, h.lent-held.few), omega (arith, h.lent-held.few)), tt)))))

-- a caller is told of what is handed back that machine values of its type mean it: so of a run that `begin` made, and of a turn's
pub run-of-begin : (κs : Lfts 1) (s : Simulation) → (begin-kinds.r).is.Ok κs s → RunHeld s
run-of-begin κs s h = h

pub run_of_turn : (κs : Lfts 2) (r : Turn) → (advance-kinds.r).is.Ok κs r → RunHeld r.simulation
run_of_turn κs r h = subst (λ (vs : List Val). Is (row the_type) r.simulation vs) (tells the_type the_laws r.simulation h.0.0 h.1.1.0) h.1.1.0

pub run_ends : ((s : Simulation) (chunk : List ℕ) (at : ℕ) (ended : Bool) (lent : List ℕ) → HeldByTypes RunHeld s chunk at lent → Answered CalledBy RunHeld s chunk at ended lent)
    → (s : Simulation) (chunks : List (List ℕ)) (lent : List ℕ) → RunHeld s → SlicesHeld chunks → SliceHeld lent → 256 ≤ length lent → Whole CalledBy s 0 chunks
run_ends answers s chunks lent run all held roomy =
    calls-end CalledBy (λ s chunk at ended lent r left one. called-owes one) RunHeld answers s chunks lent run all held roomy
