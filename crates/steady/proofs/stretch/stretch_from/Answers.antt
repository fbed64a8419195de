-- `steady::stretch::stretch_from` meets its contract. Assumes nothing.
use Prim.Native.Nat.{ℕ, ◌*◌, ◌≤◌, ◌<◌}
use mathlib.Core.Path.{◌≡◌, sym, ap, ◌∙◌, subst}
use mathlib.Core.Bool.{true}
use mathlib.Core.List.{List}
use native.Mathlib.Omega.{arith}
use lib.ListN.{length, take}
use lib.Seq.{length-take-le}
use Rattle.rules.specs.declared.run.Inputs.{Inputs}
use Rattle.rules.specs.declared.run.Run.{Run}
use Rattle.rules.specs.declared.run.SetState.{SetState}
use Rattle.rules.specs.Seconds.{inputs_each}
use Rattle.moments.specs.Parts.{run_of}
use Rattle.dispatch.specs.Working.{Admits, Works}
use Rattle.admission.proofs.Each.{each-length, each_take}
use Rattle.dispatch.proofs.Working.{first-admitted, admits-first, works-within}
use Rattle.steady.specs.NextEvent.{NoEvent, unmoved_all}
use Rattle.steady.specs.SteadySecond.{Workable}
use Rattle.steady.proofs.EventLaws.{fewer}
use Rattle.steady.proofs.stretch.stretch_from.Goals as goal
use Rattle.steady.proofs.stretch.stretch_from.Goals.{After-kept-steady}

module _ (c : After-kept-steady) where
  abbrev most : ℕ
  most = c.min-most.result

  -- at least one second is steady, and no more are asked
  few : (0 < most) × (most ≤ c.steady_for.result) × (3 * most ≤ length c.args.inputs.now)
  few =
      let e = c.min-most.ensures in
      let some = c.if-most-eq0.false in
      (omega arith, omega arith, omega arith)

  first : inputs_each (take (3 * most) c.args.inputs.now) ≡ take most (inputs_each c.args.inputs.now)
  first = each_take most c.args.inputs.now few.2

  size : length (inputs_each (take (3 * most) c.args.inputs.now)) ≡ most
  size = ap length first ∙ length-take-le most (inputs_each c.args.inputs.now) (omega (arith, few.2, each-length c.args.inputs.now))

  states-are : c.kept-steady.result.states ≡ c.args.states
  states-are = c.kept-steady.ensures.1

  called_is : c.kept-steady.result.called ≡ c.mask_called-called.result
  called_is = c.kept-steady.ensures.2

  workable : Workable c.args.st c.kept-steady.result.states c.args.moment c.args.caps.now (take (3 * most) c.args.inputs.now) c.args.decided.now c.args.rows.now
  workable =
      let pre = c.requires in
      let r : List SetState → Run = λ l. run_of c.args.moment l c.args.decided.now in
      record {
        admits = subst (λ (l : List SetState). Admits c.args.st (r l) (inputs_each (take (3 * most) c.args.inputs.now))) (sym states-are) (subst (Admits c.args.st (r c.args.states)) (sym first) (admits-first most pre.admits));
        room = omega (arith, size, pre.room, few.2, each-length c.args.inputs.now);
        some = omega (arith, size, few.0);
        sixty = pre.sixty;
        rated = pre.rated;
      }

pub kept-steady-requires : goal.kept-steady-requires
kept-steady-requires c =
    (first-admitted c.requires.admits c.requires.some (record { load = 0; solar = 0; sheddable = 0 })).station-given

pub slice_bounds-steady_seconds-end : goal.slice_bounds-steady_seconds-end
slice_bounds-steady_seconds-end c = sym (length-take-le _ _ (few (goal.at.slice_bounds-steady_seconds-end c).After-kept-steady).2)

pub steady_seconds-requires : goal.steady_seconds-requires
steady_seconds-requires c =
    let steady = c.steady_for.ensures in
    let unmoved = steady.unmoved (omega (arith, (few (goal.at.steady_seconds-requires c).After-kept-steady).0, (few (goal.at.steady_seconds-requires c).After-kept-steady).1)) in (
      workable (goal.at.steady_seconds-requires c).After-kept-steady,
      c.kept-steady.ensures.0,
      subst (λ (l : List SetState). unmoved_all l c.kept-steady.result.called ≡ true) (sym (states-are (goal.at.steady_seconds-requires c).After-kept-steady)) (subst (λ (k : ℕ). unmoved_all c.args.states k ≡ true) (sym (called_is (goal.at.steady_seconds-requires c).After-kept-steady)) unmoved),
      sym c.mask_called-called.ensures.value ∙ sym (called_is (goal.at.steady_seconds-requires c).After-kept-steady),
      subst (λ (l : List SetState). NoEvent c.args.st.sets l (length (inputs_each (take (3 * most (goal.at.steady_seconds-requires c).After-kept-steady) c.args.inputs.now)))) (sym (states-are (goal.at.steady_seconds-requires c).After-kept-steady)) (subst (NoEvent c.args.st.sets c.args.states) (sym (size (goal.at.steady_seconds-requires c).After-kept-steady)) (fewer _ _ _ _ steady.no-event (few (goal.at.steady_seconds-requires c).After-kept-steady).1)),
    )

pub returns : goal.returns
returns c =
    let a = c.args in
    let works = c.steady_seconds.ensures.works in
    let r : List SetState → Run = λ l. run_of a.moment l a.decided.now in
    let after : Run = run_of c.steady_seconds.result.moment c.steady_seconds.result.states c.steady_seconds.new.decided in
    let own = subst (λ (l : List SetState). Works a.st (r l) (inputs_each (take (3 * most (goal.at.returns c).After-kept-steady) a.inputs.now)) a.rows.now c.steady_seconds.result.seconds after c.steady_seconds.new.rows) (states-are (goal.at.returns c).After-kept-steady) works in
    let part = subst (λ (ys : List Inputs). Works a.st (r a.states) ys a.rows.now c.steady_seconds.result.seconds after c.steady_seconds.new.rows) (first (goal.at.returns c).After-kept-steady) own in
    record { works = works-within (most (goal.at.returns c).After-kept-steady) c.requires.admits part; some = c.steady_seconds.ensures.some }
