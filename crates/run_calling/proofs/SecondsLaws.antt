-- What the seconds asked come to with both files: a refusal's line, or a run that begins. Assumes nothing.
use Rattle.std.specs.Prelude.{Ok, Err, Result}
use Prim.Native.Nat.{ℕ, ◌+◌, ◌≤◌}
use mathlib.Core.Path.{◌≡◌, refl, sym, ap, ◌∙◌, subst}
use mathlib.Core.Bool.{Bool, true, false}
use mathlib.Core.List.{List, [], append-nil}
use native.Mathlib.Omega.{arith}
use native.Mathlib.Decide.{dec_le}
use lib.ListN.{length, take, drop, length-take, take-append-drop}
use lib.Seq.{take_all, take-append_seam}
use borrow.Author.Tests.{leb-false}
use Rattle.rules.specs.declared.answers.Refusal.{Refusal}
use Rattle.rules.specs.declared.station.Station.{Station}
use Rattle.rules.specs.Answers.{Answer, accepted, refused, value_or, result_of}
use Rattle.rules.specs.StationFile.{station_file}
use Rattle.rules.specs.Run.{seconds_asked}
use Rattle.rules.proofs.Tests.{never}
use Rattle.rows.specs.AnswerLine.{refused_line}
use Rattle.rows.specs.Written.{TextPut}
use Rattle.rows.proofs.Room.{put-means, none-means}
use Rattle.station.specs.Stations.{station_with}
use Rattle.arguments.proofs.SecondsAsked.{long-asked}
use Rattle.samples.specs.declared.check.Span.{Span}
use Rattle.samples.specs.Streamed.{sheet_span, checked_with}
use Rattle.input_source.specs.Source.{source_ended}
use Rattle.course.specs.Coming as coming
use Rattle.run_phases.specs.declared.state.Phase.{Phase}
use Rattle.run_phases.specs.declared.state.Simulation.{Simulation}
use Rattle.run_texts.specs.Text.{text_of}
use Rattle.run_texts.specs.Coming.{ComesIn, is_before_sets, rank, weight}
use Rattle.run_phases.specs.Begin.{Refuses, BegunAs}
use Rattle.run_texts.proofs.Printed.{Starts, CheckedFor, begins-right}
use Rattle.exchange.specs.declared.action.Why.{Why}
use Rattle.exchange.specs.declared.event.Event.{Event}
use Rattle.exchange.specs.World.{World}
use Rattle.run_stages.specs.declared.state.Stage.{Stage}
use Rattle.run_stages.specs.declared.state.Held.{Held}
use Rattle.run_stages.specs.Stages.{Machine, stopping, works_from}
use Rattle.run_stages.specs.Given.{Given, text, OfSome}
use Rattle.run_stages.specs.Holds.{Asking, seconds_of}
use Rattle.run_stages.specs.StageSteps.{StepsFrom}
use Rattle.run_calling.specs.Calls.{Answers, Begun}
use Rattle.run_stages.proofs.StopLaws.{none-stop}

-- ---- the argument SECONDS: a buffer of ten bytes tells all of it that matters

asked-cut : (s : List ℕ) (n : ℕ) → 10 ≤ n → seconds_asked (take n s) ≡ seconds_asked s
asked-cut s n ten = go (dec_le (length s) n)
  where
    go : Dec (length s ≤ n) → seconds_asked (take n s) ≡ seconds_asked s
    go (yes h) = ap seconds_asked (take_all n s h)
    go (no h) =
        let k : 10 ≤ length (take n s) = simp length-take (omega arith) in
        ap seconds_asked (sym (append-nil (take n s))) ∙ long-asked (take n s) [] k ∙ sym (long-asked (take n s) (drop n s) k) ∙ ap seconds_asked (take-append-drop n s)

-- ---- a refusal's line

line-put : (line lent : List ℕ) (answer : Result ℕ Refusal) (size : ℕ) (left : List ℕ) → answer ≡ Ok size → TextPut line lent answer left → take size left ≡ line
line-put line lent answer size left is t =
    let m = put-means line lent answer size left is t in
    ap (λ (n : ℕ). take n left) m.size_is ∙ ap (take (length line)) m.left_is ∙ take-append_seam line (drop (length line) lent)

pub refusal-put : (h : Held) (refusal : Refusal) (out : List ℕ) (answer : Result ℕ Refusal) (size : ℕ) (out' : List ℕ) → answer ≡ Ok size → TextPut (refused_line refusal) out answer out'
    → Answers h refusal out (record { stage = Stage.Answer size refusal; held = h }) out'
unfolding Answers
refusal-put h refusal out answer size out' told put g w buf roomy is called none = (record { called = called; line = line-put (refused_line refusal) out answer size out' told put ∙ sym is; carried = is; unwritten = none }, omega arith, λ well. refl)

-- a buffer of 256 bytes has room for it
pub refusal-stop : (h : Held) (refusal : Refusal) (out : List ℕ) (answer : Result ℕ Refusal) (refused-so : Refusal) (out' : List ℕ) (why : Why) (r : Machine) → answer ≡ Err refused-so → TextPut (refused_line refusal) out answer out'
    → r ≡ stopping h why → Answers h refusal out r out'
unfolding Answers
refusal-stop h refusal out answer refused-so out' why r told put stop g w buf roomy is called none =
    none-stop g h w buf out' 2 _ why r stop none (omega arith)
    (λ well. let small = leb-false 256 (length out) (none-means (refused_line refusal) out answer refused-so out' told put).0 in omega (arith, small, roomy))

-- ---- the run that the files and the seconds asked come to

checked-for : (a : Answer Station) (checked : Answer Span) (samples : List ℕ) → ((st : Station) → a ≡ accepted st → checked ≡ sheet_span samples) → CheckedFor a checked samples
checked-for (accepted st) checked samples k = k st refl
checked-for (refused n p) checked samples k = tt

-- `begin` was handed what is held
abbrev pub BegunWith : Held → List ℕ → Result Span Refusal → Simulation → Type 0
BegunWith h asked v s = BegunAs (station_with h.judging.held.file []) (result_of v) (seconds_asked asked) s

begun-as : (g : Given) (h : Held) (w : World) (asked : List ℕ) (v : Result Span Refusal) (s : Simulation) → Asking g h w → seconds_asked asked ≡ seconds_asked g.asked → result_of v ≡ checked_with h.judging.held.check [] → BegunWith h asked v s
    → BegunAs (station_file g.station) (checked_with h.judging.held.check []) (seconds_asked g.asked) s
begun-as g h w asked v s a same is b =
    subst (λ (x : Answer Station). BegunAs x (checked_with h.judging.held.check []) (seconds_asked g.asked) s) a.files.station
    (subst (λ (x : Answer Span). BegunAs (station_with h.judging.held.file []) x (seconds_asked g.asked) s) is (subst (λ (x : Answer ℕ). BegunAs (station_with h.judging.held.file []) (result_of v) x s) same b))

starts : (g : Given) (h : Held) (w : World) (s : Simulation) → Asking g h w → BegunAs (station_file g.station) (checked_with h.judging.held.check []) (seconds_asked g.asked) s → Starts s g.samples (text g)
starts g h w s a b =
    begins-right g.station g.samples g.asked (checked_with h.judging.held.check []) s (checked-for (station_file g.station) (checked_with h.judging.held.check []) g.samples a.files.check) b

-- a refusal is all of its text
pub refusal-begun : (h : Held) (asked out out' : List ℕ) (v : Result Span Refusal) (s : Simulation) (refusal : Refusal) (r : Machine) → result_of v ≡ checked_with h.judging.held.check [] → BegunWith h asked v s
    → s.phase ≡ Phase.Refusal refusal → Answers h refusal out r out' → Begun h asked out r out'
unfolding Answers Begun text_of
refusal-begun h asked out out' v s refusal r is b e answers g w buf roomy a same =
    let st = starts g h w s a (begun-as g h w asked v s a same is b) in
    let all : text g ≡ refused_line refusal = sym st.text-is ∙ ap (λ (p : Phase). text_of p s.course.station s.course.run st.inputs) e in
    let k = answers g w buf roomy all a.called a.unwritten in
    (k.0, let less = k.1 in omega (arith, less), k.2)

-- a run that is not refused was accepted by both files
record Accepts (a : Answer Station) (v : Answer Span) (q : Answer ℕ) (s : Simulation) : Type 0 where
  st : Station
  span : Span
  station-is : a ≡ accepted st
  span-is : v ≡ accepted span
  phase-is : s.phase ≡ Phase.Heading
  left_is : s.course.left ≡ value_or 0 q

abbrev is_refusal : Phase → Bool
is_refusal (Phase.Refusal refusal) = true
is_refusal Phase.Heading = false
is_refusal Phase.Seconds = false
is_refusal Phase.SetHeading = false
is_refusal (Phase.SetLine place) = false
is_refusal Phase.Over = false
is_refusal Phase.Broken = false

no-refusal : {A : Type 0} (n k : ℕ) (s : Simulation) → Refuses n k s → s.phase ≡ Phase.Heading → A
no-refusal n k s r e = never (sym (sym (ap is_refusal r.phase-is) ∙ ap is_refusal e))

accepts : (a : Answer Station) (v : Answer Span) (q : Answer ℕ) (s : Simulation) → BegunAs a v q s → s.phase ≡ Phase.Heading → Accepts a v q s
accepts (refused n k) v q s b e = no-refusal n k s b e
accepts (accepted st) (refused n k) q s b e = no-refusal n k s b e
accepts (accepted st) (accepted span) (refused n k) s b e = no-refusal n k s b e
accepts (accepted st) (accepted span) (accepted n) s b e = record { st = st; span = span; station-is = refl; span-is = refl; phase-is = b.phase-is; left_is = b.course-is.left_is }

-- and has all of its text to hand over, whatever inputs come
heading-rows : (s : Simulation) → s.phase ≡ Phase.Heading → OfSome s []
unfolding text_of
heading-rows s e =
    record {
      station = s.course.station;
      run = s.course.run;
      worked = [];
      rows = λ xs l. sym (ap (λ (p : Phase). text_of p s.course.station s.course.run xs) e);
      early = ap is_before_sets e;
    }

unended-most : (b : Bool) → coming.unended b ≤ 1
unended-most true = omega arith
unended-most false = omega arith

-- and so many calls at most
heading-weight : (s : Simulation) (n : ℕ) → s.phase ≡ Phase.Heading → s.course.left ≡ n → weight s ≤ n + 14
heading-weight s n e l =
    let r : rank s.phase ≡ 13 = ap rank e in
    let u = unended-most (source_ended s.course.source) in
    omega (arith, r, l, u)

pub run-begun : (h : Held) (asked out out' : List ℕ) (v : Result Span Refusal) (s : Simulation) → result_of v ≡ checked_with h.judging.held.check [] → BegunWith h asked v s
    → s.phase ≡ Phase.Heading → Begun h asked out (works_from h s) out'
unfolding Begun
run-begun h asked out out' v s is b e g w buf roomy a same =
    let begun = begun-as g h w asked v s a same is b in
    let st = starts g h w s a begun in
    let ok = accepts (station_file g.station) (checked_with h.judging.held.check []) (seconds_asked g.asked) s begun e in
    let few = heading-weight s (seconds_of g.asked) ok.phase-is ok.left_is in (
      record {
        called = a.called;
        goes = λ eq. record { inputs = st.inputs; come = subst (λ (l : List ℕ). ComesIn s.phase s l st.inputs) (sym eq) st.come; text-is = st.text-is };
        rows = heading-rows s ok.phase-is;
        first = a.files.tally ok.st ok.span ok.station-is ok.span-is;
        second = a.second;
        passes = a.files.later ok.st ok.station-is;
        unwritten = a.unwritten;
      },
      omega (arith, few),
      λ well. refl,
    )

-- a run begins with its heading or is refused
abbrev pub is_begin : Phase → Bool
is_begin (Phase.Refusal refusal) = true
is_begin Phase.Heading = true
is_begin Phase.Seconds = false
is_begin Phase.SetHeading = false
is_begin (Phase.SetLine place) = false
is_begin Phase.Over = false
is_begin Phase.Broken = false

-- that is all that `begin` gives
begins-so : (a : Answer Station) (v : Answer Span) (q : Answer ℕ) (s : Simulation) → BegunAs a v q s → is_begin s.phase ≡ true
begins-so (refused n k) v q s b = ap is_begin b.phase-is
begins-so (accepted st) (refused n k) q s b = ap is_begin b.phase-is
begins-so (accepted st) (accepted span) (refused n k) s b = ap is_begin b.phase-is
begins-so (accepted st) (accepted span) (accepted n) s b = ap is_begin b.phase-is

pub begun-stops : (h : Held) (asked out out' : List ℕ) (v : Result Span Refusal) (s : Simulation) (why : Why) (r : Machine) → BegunWith h asked v s → is_begin s.phase ≡ false → r ≡ stopping h why → Begun h asked out r out'
unfolding Begun
begun-stops h asked out out' v s why r b e is g w buf roomy a same =
    none-stop g h w buf out' _ _ why r is a.unwritten (omega arith)
    (λ well. never (sym e ∙ begins-so (station_with h.judging.held.file []) (result_of v) (seconds_asked asked) s b))

pub asked-steps : (h : Held) (n : ℕ) (buf asked out out' : List ℕ) (r : Machine) → asked ≡ take n buf → Begun h asked out r out' → StepsFrom Stage.AskSeconds h (Event.Read n) buf out r out'
unfolding StepsFrom Begun
asked-steps h n buf asked out out' r is begun g w before some a f ten roomy =
    let k = begun g w buf roomy a (ap seconds_asked (is ∙ f.0.1) ∙ asked-cut (w.arguments 3) (length buf) ten ∙ ap seconds_asked a.asked) in
    (k.0, k.1, λ well. k.2 tt)
