-- What the second pass and a write keep. Assumes nothing.
use Prim.Native.Nat.{ℕ, ◌+◌, ◌*◌, ◌≤◌, ◌<◌}
use mathlib.Core.Path.{◌≡◌, refl, sym, ap, ◌∙◌, subst}
use mathlib.Core.Bool.{Bool, true, false, ◌&&◌}
use mathlib.Core.List.{List, [], ◌∷◌, ◌++◌}
use native.Mathlib.Omega.{arith}
use lib.Dec.{eqb}
use borrow.Author.Tests.{eqb-true}
use lib.ListN.{length, take, drop}
use Rattle.rules.proofs.Tests.{never, both}
use Rattle.tally.specs.declared.Tally.{Tally}
use Rattle.tally.specs.Tally.{no_bytes, tallied_of, same_tally}
use Rattle.tally.proofs.TallyLaws.{tallied-append}
use Rattle.sheet_stages.specs.ToCome.{most_place}
use Rattle.run_phases.specs.declared.state.Simulation.{Simulation}
use Rattle.run_phases.specs.declared.state.Wants.{Wants}
use Rattle.exchange.specs.declared.action.Why.{Why}
use Rattle.exchange.specs.declared.event.Event.{Event}
use Rattle.exchange.specs.World.{World, left_of, again_of, with_file, with_written}
use Rattle.judging.proofs.StopLaws.{less-left}
use Rattle.run_stages.specs.declared.state.Stage.{Stage}
use Rattle.run_stages.specs.declared.state.Held.{Held}
use Rattle.run_stages.specs.Stages.{Machine, stopping}
use Rattle.run_stages.specs.Given.{Given, Goes}
use Rattle.run_stages.specs.Holds.{after_chunk, Tallies, to_read, Wanting, Writing, pass_steps, want_steps}
use Rattle.run_stages.specs.StageSteps.{StepsFrom}
use Rattle.run_second_pass.specs.Passes.{HandsOver, EntersSecond, EndsSecond, Finishes, GoesOn}
use Rattle.run_second_pass.proofs.TallyCount.{count-all, count-on, same-is}
use Rattle.run_stages.proofs.StopLaws.{running-unfinished, handing-unfinished, nearer-stop}

-- with a chunk of the buffer that the run is to read
abbrev pub with_chunk : Held → Tally → ℕ → Bool → Held
with_chunk h second chunk ended = record { judging = h.judging; second = second; simulation = h.simulation; chunk = chunk; at = 0; ended = ended; told = h.told; working = h.working }

-- the second pass has as few bytes as the first
again-few : (g : Given) → g.again ≡ g.samples → length g.again ≤ most_place
again-few g same = let size : length g.again ≡ length g.samples = ap length same in let few = g.small in omega (arith, size, few)

-- ---- a chunk, and the end

pub second-enters : (h : Held) (n : ℕ) (chunk buf out out' : List ℕ) (t : Tally) (r : Machine) → t ≡ tallied_of h.second chunk → HandsOver (with_chunk h t n false) buf out r out' → EntersSecond h n chunk buf out r out'
unfolding HandsOver EntersSecond
second-enters h n chunk buf out out' t r is hands g w roomy within c k =
    let m = hands g w roomy
    (record {
      called = k.called;
      goes = λ same. subst (λ (l : List ℕ). Goes g h.simulation (l ++ left_of w 2) w.written) c (k.goes same);
      within = within;
      tallies = (
        k.first,
        ap (λ (x : Tally). tallied_of x (left_of w 2)) is ∙ sym (tallied-append h.second chunk (left_of w 2)) ∙ k.second,
        k.rows,
        λ same. ap (λ (x : Tally). x.count + length (left_of w 2)) is ∙ count-on h.second chunk (left_of w 2) (length g.again) (again-few g same) (k.counted same),
      );
    }) in
    (m.0, m.1, λ same. m.2 tt)

-- a file that is the same is no longer than it was
pub entering-stops : (h : Held) (n : ℕ) (chunk buf out out' : List ℕ) (first second : Tally) (why : Why) (r : Machine) → first ≡ h.judging.held.tally → second ≡ tallied_of h.second chunk → first.count < second.count
    → r ≡ stopping h why → EntersSecond h n chunk buf out r out'
unfolding EntersSecond
entering-stops h n chunk buf out out' first second why r first-is second_is longer is g w roomy within c k =
    nearer-stop g h w buf out' _ _ why r is (running-unfinished g h w (chunk ++ left_of w 2) k) (omega arith)
    (λ same.
    let all : first.count ≡ length g.samples = ap (λ (t : Tally). t.count) (first-is ∙ k.first) ∙ count-all g.samples g.small in
    let some : second.count + length (left_of w 2) ≡ length g.again = ap (λ (t : Tally). t.count + length (left_of w 2)) second_is ∙ count-on h.second chunk (left_of w 2) (length g.again) (again-few g same) (k.counted same) in
    let size : length g.again ≡ length g.samples = ap length same in
    omega (arith, all, some, size, longer))

tally-is : (a b : Tally) → same_tally a b ≡ true → a ≡ b
unfolding same_tally
tally-is a b e =
    let p = both (eqb a.count b.count && eqb a.sum b.sum) (eqb a.sums b.sums) e in
    let q = both (eqb a.count b.count) (eqb a.sum b.sum) p.0 in
    rw (eqb-true a.count b.count q.0, eqb-true a.sum b.sum q.1, eqb-true a.sums b.sums p.1)

pub second-ends : (h : Held) (buf out out' : List ℕ) (first : Tally) (r : Machine) → first ≡ h.judging.held.tally → same_tally first h.second ≡ true → HandsOver (with_chunk h h.second 0 true) buf out r out'
    → EndsSecond h buf out r out'
unfolding tallied_of HandsOver EndsSecond
second-ends h buf out out' first r is e hands g w roomy k =
    let m = hands g w roomy (record { called = k.called; goes = k.goes; within = omega arith; tallies = sym k.second ∙ sym (tally-is first h.second e) ∙ is ∙ k.first }) in
    (m.0, let less = m.1 in omega (arith, less), λ same. m.2 tt)

-- and has the same tally
pub ending-stops : (h : Held) (buf out out' : List ℕ) (first : Tally) (why : Why) (r : Machine) → first ≡ h.judging.held.tally → same_tally first h.second ≡ false → r ≡ stopping h why → EndsSecond h buf out r out'
unfolding tallied_of EndsSecond
ending-stops h buf out out' first why r first-is other is g w roomy k =
    nearer-stop g h w buf out' _ _ why r is (running-unfinished g h w [] k) (omega arith)
    (λ same. never (sym other ∙ same-is first h.second (first-is ∙ k.first ∙ ap (tallied_of no_bytes) (sym same) ∙ sym k.second)))

-- ---- the steps of the second pass

pub second-read-steps : (h : Held) (n : ℕ) (buf chunk out out' : List ℕ) (r : Machine) → chunk ≡ take n buf → EntersSecond h n chunk buf out r out' → StepsFrom Stage.SecondPass h (Event.Read n) buf out r out'
unfolding StepsFrom EntersSecond
second-read-steps h n buf chunk out out' r is enters g w before some o f ten roomy =
    let w' : World = with_file w 2 (drop n (left_of w 2) ∷ again_of w 2) in
    let left : left_of w 2 ≡ chunk ++ drop n (left_of w 2) = f.0.2 ∙ ap (λ (l : List ℕ). l ++ drop n (left_of w 2)) (sym is) in
    let fewer : length (drop n (left_of w 2)) < length (left_of w 2) = less-left n buf (left_of w 2) f.0.0 (let h = f.0.1 in omega (arith, h)) f.0.2 in
    let k = enters g w' roomy (let h = f.0.1 in omega (arith, h)) is
    (record {
      called = o.called;
      goes = λ same. subst (λ (l : List ℕ). Goes g h.simulation l w.written) left (o.goes same);
      rows = o.rows;
      first = o.first;
      second = ap (tallied_of h.second) (sym left) ∙ o.second;
      counted = λ same. ap (λ (l : List ℕ). h.second.count + length l) (sym left) ∙ o.counted same;
    }) in
    (k.0, let less = k.1 in omega (arith, less, fewer), λ well. k.2 well.same)

pub second-end-steps : (h : Held) (buf out out' : List ℕ) (r : Machine) → EndsSecond h buf out r out' → StepsFrom Stage.SecondPass h Event.End buf out r out'
unfolding StepsFrom EndsSecond
second-end-steps h buf out out' r ends g w before some o f ten roomy =
    let k = ends g w roomy
    (record {
      called = o.called;
      goes = λ same. subst (λ (l : List ℕ). Goes g h.simulation l w.written) f.0 (o.goes same);
      rows = o.rows;
      first = o.first;
      second = ap (tallied_of h.second) (sym f.0) ∙ o.second;
      counted = λ same. ap (λ (l : List ℕ). h.second.count + length l) (sym f.0) ∙ o.counted same;
    }) in
    (k.0, let less = k.1 in omega (arith, less), λ well. k.2 well.same)

-- ---- the bytes of a call were written

input-tallies : (ended : Bool) (g : Given) (first second : Tally) (left : List ℕ) (s : Simulation) (done : List ℕ) → ended ≡ false → Tallies ended g first second left s done → Tallies false g first second left s done
input-tallies true g first second left s done e k = never (sym e)
input-tallies false g first second left s done e k = k

input-left : (ended : Bool) (left : List ℕ) → ended ≡ false → after_chunk ended left ≡ left
input-left true left e = never (sym e)
input-left false left e = refl

-- the next chunk is wanted
pub input-goes : (h : Held) (wanted : Wants) (buf out out' : List ℕ) → wanted ≡ Wants.Input → GoesOn h wanted buf out (record { stage = Stage.SecondPass; held = h }) out'
unfolding GoesOn
input-goes h wanted buf out out' is g w roomy k wanting =
    let wants : Wanting Wants.Input h buf = subst (λ (x : Wants). Wanting x h buf) is wanting in
    let t = input-tallies h.ended g h.judging.held.tally h.second (left_of w 2) h.simulation w.written wants.1 k.tallies in
    let left : to_read h w buf ≡ left_of w 2 = ap (λ (l : List ℕ). l ++ after_chunk h.ended (left_of w 2)) wants.0 ∙ input-left h.ended (left_of w 2) wants.1 in
    let base : pass_steps h.ended (left_of w 2) ≡ 3 * length (left_of w 2) + 3 = ap (λ (b : Bool). pass_steps b (left_of w 2)) wants.1 in
    let one : want_steps wanted ≡ 1 = ap want_steps is in (
      record {
        called = k.called;
        goes = λ same. subst (λ (l : List ℕ). Goes g h.simulation l w.written) left (k.goes same);
        rows = t.2;
        first = t.0;
        second = t.1;
        counted = t.3;
      },
      omega (arith, base, one),
      λ same. refl,
    )

-- another buffer is wanted
pub room-goes : (h : Held) (wants : Wants) (buf out out' : List ℕ) (r : Machine) → wants ≡ Wants.Room → HandsOver h buf out r out' → GoesOn h wants buf out r out'
unfolding HandsOver GoesOn
room-goes h wants buf out out' r is hands g w roomy k wanting =
    let two : want_steps wants ≡ 2 = ap want_steps is in
    let m = hands g w roomy k in
    (m.0, let less = m.1 in omega (arith, less, two), λ same. m.2 tt)

some-wanted : (wants : Wants) → 1 ≤ want_steps wants
some-wanted Wants.Further = omega arith
some-wanted Wants.Input = omega arith
some-wanted Wants.Room = omega arith
some-wanted Wants.Nothing = omega arith

-- nothing more is wanted
pub nothing-goes : (h : Held) (wants : Wants) (buf out out' : List ℕ) (r : Machine) → wants ≡ Wants.Nothing → Finishes h r → GoesOn h wants buf out r out'
unfolding Finishes GoesOn
nothing-goes h wants buf out out' r is finishes g w roomy k wanting =
    let m = finishes g w buf out' k (subst (λ (x : Wants). Wanting x h buf) is wanting) in
    let one = some-wanted wants in
    (m.0, let less = m.1 in omega (arith, less, one), m.2)

-- no call ends without a want
pub writing-stops : (h : Held) (wants : Wants) (buf out out' : List ℕ) (why : Why) (r : Machine) → wants ≡ Wants.Further → r ≡ stopping h why → GoesOn h wants buf out r out'
unfolding GoesOn
writing-stops h wants buf out out' why r further is g w roomy k wanting =
    nearer-stop g h w buf out' _ _ why r is (handing-unfinished g h w buf w.written k) (let one = some-wanted wants in omega (arith, one)) (λ same. subst (λ (x : Wants). Wanting x h buf) further wanting)

pub write-steps : (h : Held) (size : ℕ) (wants : Wants) (buf out out' : List ℕ) (r : Machine) → GoesOn h wants buf out r out' → StepsFrom (Stage.Write size wants) h Event.Done buf out r out'
unfolding StepsFrom GoesOn
write-steps h size wants buf out out' r on g w before some o f ten roomy =
    let q : Writing g h w size wants buf out = subst (λ (l : List ℕ). Writing g h w size wants l out) (sym f.1) o in
    let k = on g (with_written w (take size out)) roomy (record { called = q.handing.called; goes = q.handing.goes; within = q.handing.within; tallies = q.handing.tallies }) q.wanting in
    (k.0, k.1, λ well. k.2 well.same)
