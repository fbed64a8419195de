-- Every list of calls, of each of which what `second` owes is known: it goes as the rules do, and its accepted seconds are those of
-- the rules. Assumes nothing.
use Prim.Native.Nat.{ℕ, ◌+◌, ◌≤◌}
use mathlib.Core.Path.{◌≡◌, refl, sym, ap, ◌∙◌, subst}
use mathlib.Core.Bool.{true}
use mathlib.Core.List.{List, [], ◌∷◌, ◌++◌, map}
use native.Mathlib.Omega.{arith}
use lib.Dec.{leb, ltb}
use lib.ListN.{length, take, drop, length-append, length-drop}
use lib.Seq.{take_at}
use borrow.Author.Tests.{leb-true}
use Rattle.rules.specs.declared.station.Station.{Station}
use Rattle.rules.specs.declared.run.Inputs.{Inputs}
use Rattle.rules.specs.declared.run.Run.{Run}
use Rattle.rules.specs.declared.run.Step.{Step}
use Rattle.rules.specs.Answers.{Answer, accepted, refused, ◌>>◌, result_of}
use Rattle.rules.specs.StationRecord.{some_file_gives}
use Rattle.rules.specs.RunRecord.{most_seconds, possible}
use Rattle.rules.specs.Row.{row_text}
use Rattle.rules.specs.Second.{record_after, step, inputs_right, admitted, second, length_answered, record_handed, buffer_left, Second}
use Rattle.rules.specs.Calls.{Call, Chained, none, more}
use Rattle.rules.proofs.Checks.{passed, last-passed, both-passed}
use Rattle.rules.proofs.Shapes.{Tables}
use Rattle.laws.proofs.Kept.{judged-is, admitted_of, second-kept}
use Rattle.laws.proofs.RowLength.{row-length}
use Rattle.claims_rules.specs.Shown.{Shown, Worked}
use Rattle.claims_rules.specs.Claim.{told_by, told, worked_by, worked_in, asked, second_by, row_by, ruled_from, KeptBy, Kept}
use Rattle.claims_rules.proofs.Seconds.{read_back, worked_at}
use Rattle.claims_rules.proofs.Lists as lists
use Rattle.claims_rules.proofs.Lists.{Steps, worked_of}

-- what a call owes, in its contract's words
abbrev pub Owes : Station → Run → Call → Type 0
Owes st r c = Second st r c.inputs c.lent c.handed c.left

-- a second that is admitted has room for its row: "row buffer under 256 bytes" is refused
room-passed : (done : ℕ) (x : Inputs) (room : ℕ) → admitted done x room ≡ accepted tt → 256 ≤ room
unfolding admitted
room-passed done x room h =
    let a = passed (ltb done most_seconds) 23 0 _ tt h in
    let b = passed (inputs_right x) 19 0 _ tt a.1 in
    let c = passed (leb x.sheddable x.load) 20 0 _ tt b.1 in
    leb-true 256 room (last-passed (leb 256 room) 26 0 c.1)

-- ---- one call, by the answer of the rules

told_is : (a : Answer Step) (lent : List ℕ) → told_by (length_answered a) (buffer_left lent a) ≡ row_by a
told_is (accepted s) lent = ap accepted (take_at (row_text s.row) (drop (length (row_text s.row)) lent) (length (row_text s.row)) refl)
told_is (refused n p) lent = refl

bytes-stay : (t lent left : List ℕ) (size : ℕ) → size ≡ length t → left ≡ t ++ drop (length t) lent → left ≡ take size left ++ drop size lent
bytes-stay t lent left size e l = rw (e, l) (sym (ap (λ (z : List ℕ). z ++ drop (length t) lent) (take_at t (drop (length t) lent) (length t) refl)))

length-kept : (t lent left : List ℕ) → length t ≤ length lent → left ≡ t ++ drop (length t) lent → length left ≡ length lent
length-kept t lent left k l = ap length l ∙ length-append t (drop (length t) lent) ∙ (let e : length t + length (drop (length t) lent) ≡ length lent = omega (arith, length-drop (length t) lent) in e)

-- what is known of an accepted second's record and row
record Worth (r : Run) (lent : List ℕ) (s : Step) : Type 0 where
  done-is : s.run.done ≡ r.done + 1
  row_small : length (row_text s.row) ≤ 153
  room : 256 ≤ length lent

kept_by : (a : Answer Step) (r : Run) (c : Call) → ((s : Step) → a ≡ accepted s → Worth r c.lent s) → c.handed.run ≡ record_handed r a → c.left ≡ buffer_left c.lent a
    → KeptBy (length_answered a) r c × (length c.left ≡ length c.lent)
kept_by (accepted s) r c worth h l =
    let m = worth s refl in (
      record {
        second-done = ap (λ (x : Run). x.done) h ∙ m.done-is;
        rest-stays = bytes-stay (row_text s.row) c.lent c.left (length (row_text s.row)) refl l;
        row_fits = (m.row_small, omega (arith, m.row_small, m.room));
      },
      length-kept (row_text s.row) c.lent c.left (omega (arith, m.row_small, m.room)) l,
    )
kept_by (refused n p) r c worth h l = (record { record-kept = h; buffer-kept = l }, ap length l)

module _ (st : Station) (given : some_file_gives st ≡ true) (tables : Tables st) where
  -- what is known of a list of calls
  pub record AfterCalls (r : Run) (cs : List Call) (last : Run) : Type 0 where
    pub inputs : List Inputs
    pub steps : Steps st r inputs last
    pub shows : worked_in cs ≡ worked_of st r inputs
    pub ruled : map told cs ≡ ruled_from st r (map asked cs)
    pub kept : Chained Kept r cs last

  module _ (r last : Run) (c : Call) (cs : List Call) (was-possible : possible st r ≡ true) (o : Owes st r c) where
    abbrev pub answer : Answer Step
    answer = second_by st r (asked c)

    answer-is : second st r c.inputs (length c.lent) ≡ answer
    answer-is = judged-is st r c.inputs (length c.lent) given was-possible

    answers : result_of c.handed.answer ≡ length_answered answer
    answers = o.answers ∙ ap length_answered answer-is

    pub hands : c.handed.run ≡ record_handed r answer
    hands = o.hands ∙ ap (record_handed r) answer-is

    leaves : c.left ≡ buffer_left c.lent answer
    leaves = o.leaves ∙ ap (buffer_left c.lent) answer-is

    pub told_here : told c ≡ row_by answer
    told_here = ap (λ (a : Answer ℕ). told_by a c.left) answers ∙ ap (told_by (length_answered answer)) leaves ∙ told_is answer c.lent

    one_more : (step st r c.inputs).run.done ≡ r.done + 1
    unfolding step record_after
    one_more = refl

    worth : (s : Step) → answer ≡ accepted s → Worth r c.lent s
    worth s e =
        let a = admitted_of st r c.inputs (length c.lent) s (answer-is ∙ e) in
        let b = both-passed (admitted r.done c.inputs (length c.lent)) (accepted (step st r c.inputs)) s e in
        subst (Worth r c.lent) a.1 (record {
          done-is = one_more;
          row_small = row-length st tables r c.inputs a.0;
          room = room-passed r.done c.inputs (length c.lent) b.0;
        })

    pub kept_here : Kept r c
    kept_here =
        let k = kept_by answer r c worth hands leaves in
        record { by_answer = subst (λ (q : Answer ℕ). KeptBy q r c) (sym answers) k.0; length-stays = k.1 }

    possible-after : (a : Answer Step) → second st r c.inputs (length c.lent) ≡ a → possible st (record_handed r a) ≡ true
    possible-after (accepted s) e = second-kept st tables r c.inputs (length c.lent) s e
    possible-after (refused n p) e = was-possible

    pub stays-possible : possible st c.handed.run ≡ true
    stays-possible = ap (possible st) hands ∙ possible-after answer answer-is

    module _ (g : AfterCalls c.handed.run cs last) where
      ruled-on : map told (c ∷ cs) ≡ ruled_from st r (map asked (c ∷ cs))
      unfolding ruled_from
      ruled-on = rw told_here (ap (λ (l : List (Answer (List ℕ))). row_by answer ∷ l) (g.ruled ∙ ap (λ (q : Run). ruled_from st q (map asked cs)) hands))

      pub gone-on : AfterCalls r (c ∷ cs) last
      unfolding worked_in worked_of worked_at
      gone-on = go (admitted r.done c.inputs (length c.lent)) refl
        where
          worked : Step
          worked = step st r c.inputs

          go : (b : Answer (Unit {0})) → admitted r.done c.inputs (length c.lent) ≡ b → AfterCalls r (c ∷ cs) last
          go (accepted u) e =
              let is : answer ≡ accepted worked = ap (λ (b : Answer (Unit {0})). b >> accepted worked) e in
              let after : c.handed.run ≡ worked.run = hands ∙ ap (record_handed r) is in
              record {
                inputs = c.inputs ∷ g.inputs;
                steps = lists.more (admitted_of st r c.inputs (length c.lent) worked (answer-is ∙ is)).0 (subst (λ (q : Run). Steps st q g.inputs last) after g.steps);
                shows =
                    ap (λ (t : Answer (List ℕ)). worked_by t c.inputs (worked_in cs)) (told_here ∙ ap row_by is)
                    ∙ ap (λ (t : Shown). record { inputs = c.inputs; row = t } ∷ worked_in cs) (read_back worked.row)
                    ∙ ap (λ (l : List Worked). worked_at st r c.inputs ∷ l) (g.shows ∙ ap (λ (q : Run). worked_of st q g.inputs) after);
                ruled = ruled-on;
                kept = more kept_here g.kept;
              }
          go (refused n p) e =
              let is : answer ≡ refused n p = ap (λ (b : Answer (Unit {0})). b >> accepted worked) e in
              let after : c.handed.run ≡ r = hands ∙ ap (record_handed r) is in
              record {
                inputs = g.inputs;
                steps = subst (λ (q : Run). Steps st q g.inputs last) after g.steps;
                shows =
                    ap (λ (t : Answer (List ℕ)). worked_by t c.inputs (worked_in cs)) (told_here ∙ ap row_by is)
                    ∙ g.shows ∙ ap (λ (q : Run). worked_of st q g.inputs) after;
                ruled = ruled-on;
                kept = more kept_here g.kept;
              }

  pub gone : {r last : Run} {cs : List Call} → possible st r ≡ true → Chained (Owes st) r cs last → AfterCalls r cs last
  unfolding worked_in worked_of ruled_from
  gone {r} h none = record { inputs = []; steps = lists.none; shows = refl; ruled = refl; kept = none }
  gone {r} {last} h (more {c = c} {cs = cs} o rest) = gone-on r last c cs h o (gone (stays-possible r last c cs h o) rest)
