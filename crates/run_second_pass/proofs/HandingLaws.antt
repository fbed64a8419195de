-- What a call of the run with a chunk keeps, of calls of which only what `advance` ensures is known; and the end of a run. Assumes nothing.
use Prim.Native.Nat.{ℕ, ◌+◌, ◌≤◌, ◌<◌}
use mathlib.Core.Path.{◌≡◌, refl, sym, ap, ◌∙◌, subst}
use mathlib.Core.Bool.{Bool, true, false}
use mathlib.Core.List.{List, [], ◌++◌, append-nil, append_assoc}
use native.Mathlib.Omega.{arith}
use lib.ListN.{length, take, drop, length-append, drop_of_length-le}
use Rattle.rules.specs.declared.run.Inputs.{Inputs}
use Rattle.rules.specs.Row.{row_heading}
use Rattle.rules.proofs.Tests.{never}
use Rattle.tally.specs.declared.Tally.{Tally}
use Rattle.run_phases.specs.declared.state.Phase.{Phase}
use Rattle.run_phases.specs.declared.state.Simulation.{Simulation}
use Rattle.run_phases.specs.declared.state.Turn.{Turn}
use Rattle.run_phases.specs.declared.state.Wants.{Wants}
use Rattle.run_texts.specs.Rows.{rows_with}
use Rattle.run_texts.specs.Text.{to_print}
use Rattle.run_texts.specs.Coming.{ComesIn, ComesOn, finished, is_before_sets, weight}
use Rattle.simulation.specs.Calls as calls
use Rattle.simulation.specs.Calls.{Called}
use Rattle.simulation.proofs.Program.{comes-length, over_by}
use Rattle.exchange.specs.declared.action.Word.{Word}
use Rattle.exchange.specs.declared.action.Why.{Why}
use Rattle.exchange.specs.World.{left_of}
use Rattle.run_stages.specs.declared.state.Stage.{Stage}
use Rattle.run_stages.specs.declared.state.Held.{Held}
use Rattle.run_stages.specs.Stages.{Machine, stopping}
use Rattle.run_stages.specs.Given.{Given, text, Agreed, Goes, OfSome}
use Rattle.run_stages.specs.Holds.{after_chunk, to_read, Tallies, Wanting, want_steps, pass_steps}
use Rattle.run_second_pass.specs.Passes.{HandsOver, is_over, Finishes}
use Rattle.run_stages.proofs.StopLaws.{handing-unfinished, nearer-stop}

-- the run after a call
abbrev pub with_turn : Held → Turn → Held
with_turn h t = record { judging = h.judging; second = h.second; simulation = t.simulation; chunk = h.chunk; at = t.next; ended = h.ended; told = h.told; working = h.working }

-- nothing follows the chunk of a file that has ended
after-end : (ended : Bool) (left : List ℕ) → ended ≡ true → after_chunk ended left ≡ []
after-end true left e = refl
after-end false left e = never e

-- what the run is handed, it hands over as text, and the rest is still to come
goes_on : (g : Given) (s : Simulation) (chunk : List ℕ) (at : ℕ) (ended : Bool) (out : List ℕ) (t : Turn) (out' rest done : List ℕ) → Called s chunk at ended out t out' → (ended ≡ true → rest ≡ [])
    → Goes g s (drop at chunk ++ rest) done → Goes g t.simulation (drop t.next chunk ++ rest) (done ++ take t.written out')
goes_on g s chunk at ended out t out' rest done c none k =
    let on : ComesOn c.worked k.inputs t.simulation (drop t.next chunk ++ rest) = c.inputs rest none k.inputs k.come in
    let same : to_print s k.inputs ≡ take t.written out' ++ to_print t.simulation on.others
    = ap (to_print s) on.are ∙ c.text on.others (comes-length t.simulation (drop t.next chunk ++ rest) on.others on.come) in
    record {
      inputs = on.others;
      come = on.come;
      text-is = append_assoc done (take t.written out') (to_print t.simulation on.others) ∙ ap (λ (l : List ℕ). done ++ l) (sym same) ∙ k.text-is;
    }

-- whatever is read: the rows of some inputs
some-on : (s : Simulation) (chunk : List ℕ) (at : ℕ) (out : List ℕ) (t : Turn) (out' done : List ℕ) → Called s chunk at false out t out' → OfSome s done → OfSome t.simulation (done ++ take t.written out')
some-on s chunk at out t out' done c o =
    record {
      station = o.station;
      run = o.run;
      worked = o.worked ++ c.worked;
      rows = λ xs l.
          ap (λ (l : List Inputs). row_heading ++ rows_with o.station l o.run) (append_assoc o.worked c.worked xs)
          ∙ o.rows (c.worked ++ xs) (length-append c.worked xs ∙ (let z : length c.worked + length xs ≡ s.course.left = omega (arith, c.left_is, l) in z))
          ∙ ap (λ (l : List ℕ). done ++ l) (c.text xs l) ∙ sym (append_assoc done (take t.written out') (to_print t.simulation xs));
      early = c.early refl o.early;
    }

tallies-on : (ended : Bool) (g : Given) (first second : Tally) (left : List ℕ) (s : Simulation) (chunk : List ℕ) (at : ℕ) (out : List ℕ) (t : Turn) (out' done : List ℕ) → Called s chunk at ended out t out'
    → Tallies ended g first second left s done → Tallies ended g first second left t.simulation (done ++ take t.written out')
tallies-on true g first second left s chunk at out t out' done c k = k
tallies-on false g first second left s chunk at out t out' done c k = (k.0, k.1, some-on s chunk at out t out' done c k.2, k.3)

wants-right : (wants : Wants) (h : Held) (buf out : List ℕ) (t : Turn) → calls.Stopped wants h.simulation (take h.chunk buf) h.ended out t → Wanting wants (with_turn h t) buf
wants-right Wants.Further h buf out t z = absurd z
wants-right Wants.Input h buf out t z =
    let k : length (take h.chunk buf) ≤ t.next = omega (arith, z.0) in
    (drop_of_length-le (take h.chunk buf) k, z.1)
wants-right Wants.Room h buf out t z = tt
wants-right Wants.Nothing h buf out t z = z

-- a call that wants room came nearer to the end
call-nearer : (wants : Wants) (s : Simulation) (chunk : List ℕ) (ended : Bool) (out : List ℕ) (t : Turn) (base : ℕ) → 256 ≤ length out → weight t.simulation ≤ weight s → calls.Stopped wants s chunk ended out t
    → base + weight t.simulation + want_steps wants < base + weight s + 2
call-nearer Wants.Further s chunk ended out t base roomy less z = absurd z
call-nearer Wants.Input s chunk ended out t base roomy less z = omega (arith, less)
call-nearer Wants.Room s chunk ended out t base roomy less z = let nearer = z.1 roomy in omega (arith, nearer)
call-nearer Wants.Nothing s chunk ended out t base roomy less z = omega (arith, less)

-- ---- THE LAW of a call

pub call-hands : (h : Held) (buf chunk out : List ℕ) (t : Turn) (out' : List ℕ) → chunk ≡ take h.chunk buf → Called h.simulation chunk h.at h.ended out t out'
    → HandsOver h buf out (record { stage = Stage.Write t.written t.wants; held = with_turn h t }) out'
unfolding HandsOver
call-hands h buf chunk out t out' is c g w roomy k =
    let d : Called h.simulation (take h.chunk buf) h.at h.ended out t out' = subst (λ (l : List ℕ). Called h.simulation l h.at h.ended out t out') is c in (
      record {
        handing = record {
          called = k.called;
          goes = λ same. goes_on g h.simulation (take h.chunk buf) h.at h.ended out t out' (after_chunk h.ended (left_of w 2)) w.written d (after-end h.ended (left_of w 2)) (k.goes same);
          within = k.within;
          tallies = tallies-on h.ended g h.judging.held.tally h.second (left_of w 2) h.simulation (take h.chunk buf) h.at out t out' w.written d k.tallies;
        };
        wanting = wants-right t.wants h buf out t d.wants;
      },
      call-nearer t.wants h.simulation (take h.chunk buf) h.ended out t (pass_steps h.ended (left_of w 2)) roomy d.less d.wants,
      λ well. refl,
    )

-- the chunk always lies within the buffer
pub handing-stops : (h : Held) (buf out out' : List ℕ) (why : Why) (r : Machine) → length buf < h.chunk → r ≡ stopping h why → HandsOver h buf out r out'
unfolding HandsOver
handing-stops h buf out out' why r short is g w roomy k =
    nearer-stop g h w buf out' _ _ why r is (handing-unfinished g h w buf w.written k) (omega arith) (λ well. let within = k.within in omega (arith, within, short))

-- ---- the end of a run

over-finished : (p : Phase) → is_over p ≡ true → finished p ≡ true
over-finished (Phase.Refusal refusal) e = never e
over-finished Phase.Heading e = never e
over-finished Phase.Seconds e = never e
over-finished Phase.SetHeading e = never e
over-finished (Phase.SetLine place) e = never e
over-finished Phase.Over e = refl
over-finished Phase.Broken e = never e

-- all of the text is written
all-written : (g : Given) (s : Simulation) (rest done : List ℕ) → is_over s.phase ≡ true → Goes g s rest done → done ≡ text g
all-written g s rest done e k =
    sym (append-nil done) ∙ ap (λ (l : List ℕ). done ++ l) (sym (over_by s.phase s rest k.inputs (over-finished s.phase e) k.come)) ∙ k.text-is

agreed-by : (ended : Bool) (g : Given) (first second : Tally) (left : List ℕ) (s : Simulation) (done : List ℕ) → ended ≡ true → Tallies ended g first second left s done → Agreed g
agreed-by true g first second left s done e k = k
agreed-by false g first second left s done e k = never e

pub complete-finishes : (h : Held) → is_over h.simulation.phase ≡ true → h.ended ≡ true → Finishes h (record { stage = Stage.Stop Word.Complete; held = h })
unfolding Finishes
complete-finishes h e d g w buf out k fin = (
  (
    λ same. all-written g h.simulation (to_read h w buf) w.written e (k.goes same),
    agreed-by h.ended g h.judging.held.tally h.second (left_of w 2) h.simulation w.written d k.tallies,
    k.called,
  ),
  omega arith,
  λ well. refl,
)

-- a run that wants nothing more and is not over broke off
broken-only : (p : Phase) → is_over p ≡ false → finished p ≡ true → p ≡ Phase.Broken
broken-only (Phase.Refusal refusal) e f = never f
broken-only Phase.Heading e f = never f
broken-only Phase.Seconds e f = never f
broken-only Phase.SetHeading e f = never f
broken-only (Phase.SetLine place) e f = never f
broken-only Phase.Over e f = never (sym e)
broken-only Phase.Broken e f = refl

-- which no run does that reads the bytes that were judged
pub broken-stops : (h : Held) (why : Why) (r : Machine) → is_over h.simulation.phase ≡ false → r ≡ stopping h why → Finishes h r
unfolding Finishes
broken-stops h why r e is g w buf out k fin =
    nearer-stop g h w buf out 1 _ why r is (handing-unfinished g h w buf w.written k) (omega arith)
    (λ same. let goes = k.goes same in subst (λ (p : Phase). ComesIn p h.simulation (to_read h w buf) goes.inputs) (broken-only h.simulation.phase e fin) goes.come)

-- a run that is over has shown its sets
over-late : (p : Phase) → is_over p ≡ true → is_before_sets p ≡ true → ⊥
over-late (Phase.Refusal refusal) e b = never e
over-late Phase.Heading e b = never e
over-late Phase.Seconds e b = never e
over-late Phase.SetHeading e b = never e
over-late (Phase.SetLine place) e b = never e
over-late Phase.Over e b = never b
over-late Phase.Broken e b = never e

-- until the run is told of the end its sets are to come
early-by : (ended : Bool) (g : Given) (first second : Tally) (left : List ℕ) (s : Simulation) (done : List ℕ) → ended ≡ false → Tallies ended g first second left s done → is_before_sets s.phase ≡ true
early-by true g first second left s done e k = never (sym e)
early-by false g first second left s done e k = k.2.early

-- which none does before it was told of the file's end
pub unended-stops : (h : Held) (why : Why) (r : Machine) → is_over h.simulation.phase ≡ true → h.ended ≡ false → r ≡ stopping h why → Finishes h r
unfolding Finishes
unended-stops h why r e d is g w buf out k fin =
    nearer-stop g h w buf out 1 _ why r is (handing-unfinished g h w buf w.written k) (omega arith)
    (λ same. over-late h.simulation.phase e (early-by h.ended g h.judging.held.tally h.second (left_of w 2) h.simulation w.written d k.tallies))
