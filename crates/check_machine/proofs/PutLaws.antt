-- The answer in the output buffer, once both files are judged. Assumes nothing.
use Rattle.std.specs.Prelude.{Ok, Err, Result}
use Prim.Native.Nat.{ℕ, ◌≤◌}
use mathlib.Core.Path.{◌≡◌, refl, sym, ap, ◌∙◌, subst}
use mathlib.Core.List.{List, [], ◌++◌}
use native.Mathlib.Omega.{arith}
use lib.ListN.{length, take, drop}
use lib.Seq.{take-append_seam}
use borrow.Author.Tests.{leb-false}
use Rattle.rules.specs.declared.answers.Refusal.{Refusal}
use Rattle.rules.specs.Answers.{judged, result_of}
use Rattle.rules.specs.declared.station.Station.{Station}
use Rattle.rows.specs.AnswerLine.{accepted_line, refused_line}
use Rattle.rows.specs.Written.{TextPut}
use Rattle.rows.proofs.Room.{put-means, none-means}
use Rattle.station.specs.Stations.{station_with}
use Rattle.samples.specs.declared.check.Span.{Span}
use Rattle.samples.specs.Streamed.{checked_with}
use Rattle.exchange.specs.declared.action.Why.{Why}
use Rattle.exchange.specs.declared.action.Word.{Word}
use Rattle.exchange.specs.World.{World, left_in, again_of}
use Rattle.judging.specs.Holds.{Files}
use Rattle.check_machine.specs.declared.state.Stage.{Stage}
use Rattle.check_machine.specs.declared.state.Held.{Held}
use Rattle.check_machine.specs.Stages.{Machine}
use Rattle.check_machine.specs.Stages.{stopping}
use Rattle.check_machine.specs.Holds.{text, Nearer, Unanswered, most_after, Accepts, Refuses, RefusesLine, AnswersSamples, Answers}
use Rattle.check_machine.proofs.StopLaws.{begins-none}
use Rattle.check_machine.proofs.AnswerLaws.{station-refused, station-accepted, samples-refused, samples-accepted}

-- the text that was put is what is to be written
put_is : (line out : List ℕ) (answer : Result ℕ Refusal) (size : ℕ) (out' : List ℕ) → answer ≡ Ok size → TextPut line out answer out' → take size out' ≡ line
put_is line out answer size out' is p =
    let w = put-means line out answer size out' is p in
    ap (λ (n : ℕ). take n out') w.size_is ∙ ap (take (length line)) w.left_is ∙ take-append_seam line (drop (length line) out)

-- and with what was written before it, which is nothing
all-is : (g : Files) (w : World) (line out : List ℕ) (answer : Result ℕ Refusal) (size : ℕ) (out' : List ℕ) → Unanswered w → text g ≡ line → answer ≡ Ok size → TextPut line out answer out' → w.written ++ take size out' ≡ text g
all-is g w line out answer size out' u is a p = ap (λ (l : List ℕ). l ++ take size out') u.unwritten ∙ put_is line out answer size out' a p ∙ sym is

-- no room, which a buffer of 256 bytes has: nothing is written
no_room : (g : Files) (w : World) (h : Held) (line out : List ℕ) (answer : Result ℕ Refusal) (full : Refusal) (out' : List ℕ) (why : Why) (r : Machine) → answer ≡ Err full → TextPut line out answer out' → r ≡ stopping h why
    → Unanswered w → Nearer g r w out' (most_after g) (256 ≤ length out)
no_room g w h line out answer full out' why r told put is u =
    subst (λ (m : Machine). Nearer g m w out' (most_after g) (256 ≤ length out)) (sym is)
    (begins-none (text g) w.written u.unwritten, omega arith, λ roomy. absurd (let small = leb-false 256 (length out) (none-means line out answer full out' told put).0 in omega (arith, small, roomy)))

module _ (h : Held) (out out' : List ℕ) (answer : Result ℕ Refusal) (size : ℕ) (is : answer ≡ Ok size) where
  pub accept-puts : TextPut accepted_line out answer out' → Accepts out (record { stage = Stage.Answer size Word.Complete; held = h }) out'
  unfolding Accepts
  accept-puts p g w u line = (((all-is g w accepted_line out answer size out' u line is p, line, u.called), refl), omega arith, λ well. refl)

  pub refuse-puts : (refusal : Refusal) → TextPut (refused_line refusal) out answer out' → Refuses refusal out (record { stage = Stage.Answer size (Word.Refused refusal); held = h }) out'
  unfolding Refuses
  refuse-puts refusal p g w u line = (((all-is g w (refused_line refusal) out answer size out' u line is p, line, u.called), refl), omega arith, λ well. refl)

  pub refuse-line-puts : (refusal : Refusal) → TextPut (refused_line refusal) out answer out' → RefusesLine refusal out (record { stage = Stage.LineAnswer size refusal; held = h }) out'
  unfolding RefusesLine
  refuse-line-puts refusal p g w u line later =
      let same : length (left_in (again_of w 2)) ≡ length (left_in g.later) = ap (λ (l : List (List ℕ)). length (left_in l)) later in
      ((all-is g w (refused_line refusal) out answer size out' u line is p, line, u.called), omega (arith, same), λ well. refl)

module _ (h : Held) (out out' : List ℕ) (answer : Result ℕ Refusal) (full : Refusal) (told : answer ≡ Err full) (why : Why) (r : Machine) (is : r ≡ stopping h why) where
  pub accept-stops : TextPut accepted_line out answer out' → Accepts out r out'
  unfolding Accepts
  accept-stops p g w u line = no_room g w h accepted_line out answer full out' why r told p is u

  pub refuse-stops : (refusal : Refusal) → TextPut (refused_line refusal) out answer out' → Refuses refusal out r out'
  unfolding Refuses
  refuse-stops refusal p g w u line = no_room g w h (refused_line refusal) out answer full out' why r told p is u

  pub refuse-line-stops : (refusal : Refusal) → TextPut (refused_line refusal) out answer out' → RefusesLine refusal out r out'
  unfolding RefusesLine
  refuse-line-stops refusal p g w u line later = no_room g w h (refused_line refusal) out answer full out' why r told p is u

-- a refusal that has no line
pub without-line : (refusal : Refusal) (out : List ℕ) (r : Machine) (out' : List ℕ) → Refuses refusal out r out' → RefusesLine refusal out r out'
unfolding Refuses RefusesLine
without-line refusal out r out' refuses g w u line later = refuses g w u line

-- ---- from the verdicts

module _ (h : Held) (r : Machine) (out out' : List ℕ) where
  module _ (checked : Result Span Refusal) (e : result_of checked ≡ checked_with h.judging.held.check []) where
    pub accepts-samples : (span : Span) → checked ≡ Ok span → Accepts out r out' → AnswersSamples h out r out'
    unfolding Accepts AnswersSamples
    accepts-samples span is accepts g w st u j p = accepts g w u (samples-accepted g.station g.samples st span p (ap result_of (sym is) ∙ e ∙ j.check st p))

    pub refuses-samples : (refusal : Refusal) → checked ≡ Err refusal → RefusesLine refusal out r out' → AnswersSamples h out r out'
    unfolding RefusesLine AnswersSamples
    refuses-samples refusal is refuses g w st u j p = refuses g w u (samples-refused g.station g.samples st refusal p (ap result_of (sym is) ∙ e ∙ j.check st p)) (j.later st p)

  module _ (read : Result Station Refusal) (e : result_of read ≡ station_with h.judging.held.file []) where
    pub accepts-station : (st : Station) → read ≡ Ok st → AnswersSamples h out r out' → Answers h out r out'
    unfolding AnswersSamples Answers
    accepts-station st is answers g w u j =
        let a = station-accepted (station_with h.judging.held.file []) (ap (λ (v : Result Station Refusal). judged (result_of v)) (sym is) ∙ ap judged e) in
        answers g w a.station u j (sym j.station ∙ a.is)

    pub refuses-station : (refusal : Refusal) → read ≡ Err refusal → Refuses refusal out r out' → Answers h out r out'
    unfolding Refuses Answers
    refuses-station refusal is refuses g w u j =
        refuses g w u (station-refused g.station g.samples refusal (ap (λ (v : Result Station Refusal). judged (result_of v)) (sym is) ∙ ap judged (e ∙ j.station)))
