-- `steady::seconds::work_seconds` meets its contract. Assumes nothing.
-- ---- what is left of the work
use Prim.Native.Nat.{ℕ, ◌+◌, ◌-◌, ◌*◌, ◌/◌, ◌≤◌, ◌<◌}
use mathlib.Core.Path.{◌≡◌, refl, sym, ap, ◌∙◌, subst}
use mathlib.Core.List.{List, ◌++◌}
use native.Mathlib.Omega.{arith}
use borrow.Author.Rules.{rules}
use lib.ListN.{length, take, drop, length-drop}
use Rattle.rules.specs.declared.run.Inputs.{Inputs}
use Rattle.rules.specs.declared.run.Run.{Run}
use Rattle.rules.specs.Seconds.{inputs_each}
use Rattle.rules.proofs.Shapes.{Tables}
use Rattle.moments.specs.Parts.{run_of}
use Rattle.dispatch.specs.Working.{Admits, Works}
use Rattle.admission.proofs.Admitting.{rest_of}
use Rattle.admission.proofs.Each.{each-drop, each-length}
use Rattle.steps.proofs.Ready.{rated}
use Rattle.dispatch.proofs.Working.{works-start, works-length, works-on, first-admitted, back_is}
use Rattle.steady.specs.SteadySecond.{Workable}
use Rattle.steady.proofs.seconds.work_seconds.Goals as goal
use Rattle.steady.proofs.seconds.work_seconds.Goals.{In-loop-i, After-stretch_from-went}

rest-are : (inputs : List ℕ) (i : ℕ) → inputs_each (take (length inputs - 3 * i) (drop (3 * i) inputs)) ≡ drop i (inputs_each inputs)
rest-are inputs i = ap inputs_each (rest_of inputs (3 * i)) ∙ each-drop i inputs

module _ (c : In-loop-i) where
  -- the station's tables have their lengths
  tables : Tables c.args.st
  tables = record { sets-length = search rules; configs-length = search rules }

  -- the seconds asked
  many : c.args.count ≡ length c.args.inputs.now / 3
  many = c.requires.1 ∙ each-length c.args.inputs.now

  abbrev rest : List ℕ
  rest = take (length c.args.inputs.now - 3 * c.loop-i.i) (drop (3 * c.loop-i.i) c.args.inputs.now)

  abbrev places : List ℕ
  places = take (length c.loop-i.rows - 13 * c.loop-i.i) (drop (13 * c.loop-i.i) c.loop-i.rows)

  left : length (inputs_each rest) ≡ c.args.count - c.loop-i.i
  left =
      ap length (rest-are c.args.inputs.now c.loop-i.i)
      ∙ length-drop c.loop-i.i (inputs_each c.args.inputs.now)
      ∙ ap (λ (n : ℕ). n - c.loop-i.i) (sym c.requires.1)

  workable : Workable c.args.st c.loop-i.states c.loop-i.moment c.capacities-caps.result rest c.loop-i.decided places
  workable =
      let t = c.loop-i-test.true in
      let r : Run = run_of c.loop-i.moment c.loop-i.states c.loop-i.decided in
      let admits : Admits c.args.st r (inputs_each rest) = subst (Admits c.args.st r) (sym (rest-are c.args.inputs.now c.loop-i.i)) c.loop-i.invariant.0.admits in
      let some : 0 < length (inputs_each rest) = omega (arith, left) in
      record {
        admits = admits;
        room = omega (arith, left, ap length (rest_of c.loop-i.rows (13 * c.loop-i.i)), length-drop (13 * c.loop-i.i) c.loop-i.rows, c.loop-i.invariant.2, c.requires.2);
        some = some;
        sixty = c.loop-i.invariant.1;
        rated = rated c.args.st tables (first-admitted admits some (record { load = 0; solar = 0; sheddable = 0 })).station-given _ c.capacities-caps.ensures;
      }

module _ (c : After-stretch_from-went) where
  abbrev tail : List ℕ
  tail = c.stretch_from-went.new.rows

  abbrev rows' : List ℕ
  rows' = take (13 * c.loop-i.i) c.loop-i.rows ++ (tail ++ drop (length c.loop-i.rows - 13 * c.loop-i.i) (drop (13 * c.loop-i.i) c.loop-i.rows))

  abbrev after : Run
  after = run_of c.stretch_from-went.result.moment c.stretch_from-went.result.states c.stretch_from-went.new.decided

  abbrev began : Run
  began = run_of c.moment_of-moment.result c.args.run.sets c.args.run.decided

  worked : Works c.args.st began (inputs_each c.args.inputs.now) c.args.rows.now (c.loop-i.i + c.stretch_from-went.result.seconds) after rows'
  worked =
      let st = c.args.st in
      let r : Run = run_of c.loop-i.moment c.loop-i.states c.loop-i.decided in
      let n = c.stretch_from-went.result.seconds in
      let places : List ℕ = take (length c.loop-i.rows - 13 * c.loop-i.i) (drop (13 * c.loop-i.i) c.loop-i.rows) in
      let some = subst (λ (ys : List Inputs). Works st r ys places n after tail) (rest-are c.args.inputs.now c.loop-i.i) c.stretch_from-went.ensures.works in
      let own = subst (λ (l : List ℕ). Works st r (drop c.loop-i.i (inputs_each c.args.inputs.now)) l n after tail) (rest_of c.loop-i.rows (13 * c.loop-i.i)) some in
      subst (λ (l : List ℕ). Works st began (inputs_each c.args.inputs.now) c.args.rows.now (c.loop-i.i + n) after l) (sym (back_is c.loop-i.rows tail (13 * c.loop-i.i))) (works-on c.loop-i.invariant.0 own)

  in-range : c.loop-i.i + c.stretch_from-went.result.seconds ≤ c.args.count
  in-range = omega (arith, worked.most, c.requires.1)

pub loop-i-init : goal.loop-i-init
loop-i-init c = (works-start c.args.st _ (inputs_each c.args.inputs.now) c.args.rows.now (rw c.moment_of-moment.ensures c.requires.0), search rules, refl)

pub slice_bounds-stretch_from-count : goal.slice_bounds-stretch_from-count
slice_bounds-stretch_from-count c = let t = c.loop-i-test.true in omega (arith, many (goal.at.slice_bounds-stretch_from-count c).In-loop-i)

pub slice_bounds-stretch_from-start : goal.slice_bounds-stretch_from-start
slice_bounds-stretch_from-start c = let t = c.loop-i-test.true in omega (arith, many (goal.at.slice_bounds-stretch_from-start c).In-loop-i)

pub stretch_from-went-requires : goal.stretch_from-went-requires
stretch_from-went-requires c = workable (goal.at.stretch_from-went-requires c).In-loop-i

pub overflow_add-i : goal.overflow_add-i
overflow_add-i c =
    let most = in-range (goal.at.overflow_add-i c).After-stretch_from-went in
    let fits = c.ranges.count.fits in
    record { fits = omega arith }

pub loop-i-smaller : goal.loop-i-smaller
loop-i-smaller c = omega (arith, c.stretch_from-went.ensures.some, c.loop-i-test.true, in-range (goal.at.loop-i-smaller c).After-stretch_from-went)

pub loop-i-preserved : goal.loop-i-preserved
loop-i-preserved c =
    let went = (goal.at.loop-i-preserved c).After-stretch_from-went in
    let size = works-length (worked went) (omega (arith, c.requires.2, in-range went)) in
    (worked went, search rules, size)
