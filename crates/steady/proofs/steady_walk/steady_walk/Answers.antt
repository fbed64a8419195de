-- `steady::steady_walk::steady_walk` meets its contract. Assumes nothing.
use Prim.Native.Nat.{ℕ, suc, ◌+◌, ◌-◌, ◌*◌, ◌/◌, ◌≤◌, ◌<◌}
use mathlib.Core.Path.{◌≡◌, refl, sym, ap, ◌∙◌, subst}
use mathlib.Core.Bool.{true}
use mathlib.Core.List.{List, ◌∷◌, ◌++◌}
use native.Mathlib.Omega.{arith}
use borrow.Author.Rules.{rules}
use lib.ListN.{length, take, drop, length-drop}
use Rattle.rules.specs.declared.station.Station.{Station}
use Rattle.rules.specs.declared.run.Inputs.{Inputs}
use Rattle.rules.specs.declared.run.Row.{Row}
use Rattle.rules.specs.declared.run.Run.{Run}
use Rattle.rules.specs.declared.run.SetState.{SetState}
use Rattle.rules.specs.Configuration.{mask_called}
use Rattle.rules.specs.RunRecord.{possible}
use Rattle.rules.specs.Second.{step}
use Rattle.rules.specs.Seconds.{inputs_each}
use Rattle.rules.proofs.Shapes.{Tables}
use Rattle.laws.specs.Admitted.{Admitted}
use Rattle.rows.specs.RowNumbers.{row_first}
use Rattle.moments.specs.Parts.{run_of}
use Rattle.admission.specs.Admission.{first_inputs}
use Rattle.dispatch.specs.Working.{Admits, Works}
use Rattle.admission.proofs.Admitting.{rest_of}
use Rattle.admission.proofs.Each.{each_at, each-length}
use Rattle.dispatch.proofs.Working.{works-start, works-length, works-step, next-admitted, first-admitted, back_is}
use Rattle.steady.specs.declared.steady_counts.Added.{Added}
use Rattle.steady.specs.declared.steady_step.Standing.{Standing}
use Rattle.steady.specs.NextEvent.{NoEvent}
use Rattle.steady.specs.Steady.{since_steady}
use Rattle.steady.specs.SteadySecond.{run_at, commanded_since, SteadyStepped, Walks}
use Rattle.steady.proofs.EventLaws.{fewer}
use Rattle.steady.proofs.Walking.{stays-steady, possible-after}
use Rattle.steady.proofs.steady_walk.steady_walk.Goals as goal
use Rattle.steady.proofs.steady_walk.steady_walk.Goals.{After-put_row_numbers}

-- ---- the inputs of a second of the walk

module _ (inputs : List ℕ) (ran : ℕ) (l : ran < length inputs / 3) where
  abbrev x : Inputs
  x = first_inputs (drop (3 * ran) inputs)

  here : drop ran (inputs_each inputs) ≡ x ∷ drop (suc ran) (inputs_each inputs)
  here = each_at inputs ran (omega (arith, l))

  admitted : {st : Station} {r : Run} → Admits st r (drop ran (inputs_each inputs)) → Admitted st r x
  admitted {st} {r} h = next-admitted (subst (Admits st r) here h)

  asked : {y : Inputs} → y ≡ first_inputs (take (length inputs - 3 * ran) (drop (3 * ran) inputs)) → y ≡ x
  asked e = e ∙ ap first_inputs (rest_of inputs (3 * ran))

-- ---- a second of the walk

module _ (c : After-put_row_numbers) where
  -- the station's tables have their lengths
  tables : Tables c.args.st
  tables = record { sets-length = search rules; configs-length = search rules }

  abbrev ran : ℕ
  ran = c.loop-ran.ran

  -- the record where the walk began
  abbrev began : Run
  began = run_of c.args.from (since_steady c.args.steady.now.states c.args.steady.now.on 0 c.args.added.now) c.args.decided.now

  abbrev standing : Standing
  standing = record { moment = c.loop-ran.moment; ran = ran }

  abbrev r : Run
  r = run_at c.args.steady.now standing c.loop-ran.added c.loop-ran.decided

  abbrev now : Inputs
  now = x c.args.inputs.now ran c.loop-ran-test.true

  has-place : 13 ≤ length (drop (13 * ran) c.loop-ran.rows)
  has-place =
      let t = c.loop-ran-test.true in
      omega (arith, length-drop (13 * ran) c.loop-ran.rows, c.loop-ran.invariant.3, c.requires.0.room, each-length c.args.inputs.now)

  abbrev added' : List Added
  added' = c.steady_step-gone.new.added

  abbrev decided' : List ℕ
  decided' = c.steady_step-gone.new.decided

  taken : SteadyStepped c.args.st c.args.steady.now standing r now c.steady_step-gone.result added' decided'
  taken =
      subst (λ (y : Inputs). SteadyStepped c.args.st c.args.steady.now standing r y c.steady_step-gone.result added' decided')
      (asked c.args.inputs.now ran c.loop-ran-test.true c.first_inputs-x.ensures) c.steady_step-gone.ensures

  abbrev rows' : List ℕ
  rows' = take (13 * ran) c.loop-ran.rows ++ (c.put_row_numbers.new.rows ++ drop (length c.loop-ran.rows - 13 * ran) (drop (13 * ran) c.loop-ran.rows))

  back : rows' ≡ take (13 * ran) c.loop-ran.rows ++ row_first (step c.args.st r now).row (drop (13 * ran) c.loop-ran.rows)
  back =
      back_is c.loop-ran.rows _ (13 * ran)
      ∙ ap (λ (l : List ℕ). take (13 * ran) c.loop-ran.rows ++ l)
      (c.put_row_numbers.ensures ∙ ap (row_first c.steady_step-gone.result.row) (rest_of c.loop-ran.rows (13 * ran))
      ∙ ap (λ (k : Row). row_first k (drop (13 * ran) c.loop-ran.rows)) taken.row)

  abbrev after : Run
  after = run_of c.steady_step-gone.result.moment (commanded_since c.args.st c.args.steady.now (ran + 1) added' c.steady_step-gone.result.moment.called) decided'

  worked : Works c.args.st began (inputs_each c.args.inputs.now) c.args.rows.now (ran + 1) after rows'
  worked =
      let a = c.args in
      let xs = inputs_each a.inputs.now in
      let n = ran + 1 in
      let one = works-step c.loop-ran.invariant.0 now _ (here a.inputs.now ran c.loop-ran-test.true) has-place in
      let put = subst (λ (l : List ℕ). Works a.st began xs a.rows.now n (step a.st r now).run l) (sym back) one in
      subst (λ (z : Run). Works a.st began xs a.rows.now n z rows') (sym taken.after) put

  rows-size : length rows' ≡ length c.args.rows.now
  rows-size = let t = c.loop-ran-test.true in works-length worked (omega (arith, c.requires.0.room, each-length c.args.inputs.now))

  stays-possible : possible c.args.st after ≡ true
  stays-possible =
      ap (possible c.args.st) taken.after
      ∙ possible-after c.args.st tables r now (admitted c.args.inputs.now ran c.loop-ran-test.true c.loop-ran.invariant.0.admits)

  walks : Walks c.args.st c.args.steady.now began (inputs_each c.args.inputs.now) c.args.rows.now c.steady_step-gone.result.moment (ran + 1) added' decided' rows'
  walks = record { works = worked; some = omega arith; stays-possible = stays-possible }

pub loop-ran-init : goal.loop-ran-init
loop-ran-init c =
    let pre = c.requires.0 in
    let a = c.args in
    (works-start a.st _ _ a.rows.now pre.admits, pre.called, pre.sixty, refl, (first-admitted pre.admits pre.some (record { load = 0; solar = 0; sheddable = 0 })).record-possible)

pub steady_step-gone-requires : goal.steady_step-gone-requires
steady_step-gone-requires c =
    let pre = c.requires in
    let inv = c.loop-ran.invariant in
    let t = c.loop-ran-test.true in
    let a = c.args in
    let r : Run = run_at a.steady.now (record { moment = c.loop-ran.moment; ran = c.loop-ran.ran }) c.loop-ran.added c.loop-ran.decided in
    let calm : NoEvent a.st.sets a.steady.now.states (c.loop-ran.ran + 1) = fewer _ _ _ _ pre.0.no-event (omega (arith, each-length a.inputs.now)) in
    (pre.0.kept, calm, subst (Admitted a.st r) (sym (asked a.inputs.now c.loop-ran.ran t c.first_inputs-x.ensures)) (admitted a.inputs.now c.loop-ran.ran t inv.0.admits), pre.1, inv.2, pre.2)

pub returns-then-mask_called-steady : goal.returns-then-mask_called-steady
returns-then-mask_called-steady c = walks (goal.at.returns-then-mask_called-steady c).After-put_row_numbers

pub loop-ran-preserved : goal.loop-ran-preserved
loop-ran-preserved c =
    let put = (goal.at.loop-ran-preserved c).After-put_row_numbers in
    let a = c.args in
    let pre = c.requires.0 in
    let t = c.loop-ran-test.true in
    let mask : mask_called a.st.configs c.steady_step-gone.result.moment.called ≡ a.steady.now.called = sym c.mask_called.ensures.value ∙ (omega (arith, c.if-mask_called-steady.false)) in
    let same = stays-steady a.st a.steady.now pre.kept.is-on pre.unmoved (c.loop-ran.ran + 1) (added' put) _ mask in
    let run : List SetState → Run = λ l. run_of c.steady_step-gone.result.moment l (decided' put) in (
      subst (λ (l : List SetState). Works a.st (began put) (inputs_each a.inputs.now) a.rows.now (c.loop-ran.ran + 1) (run l) (rows' put)) same (worked put),
      mask,
      search rules,
      rows-size put,
      subst (λ (l : List SetState). possible a.st (run l) ≡ true) same (stays-possible put),
    )

pub returns : goal.returns
returns c =
    let a = c.args in
    let pre = c.requires.0 in
    let ran = c.loop-ran.ran in
    let same = sym (stays-steady a.st a.steady.now pre.kept.is-on pre.unmoved ran c.loop-ran.added _ c.loop-ran.invariant.1) in
    let began : Run = run_of a.from (since_steady a.steady.now.states a.steady.now.on 0 a.added.now) a.decided.now in
    let run : List SetState → Run = λ l. run_of c.loop-ran.moment l c.loop-ran.decided in
    let t = c.loop-ran-test.false in
    let all : length a.inputs.now / 3 ≡ ran = omega arith in
    let walks : Walks a.st a.steady.now began (inputs_each a.inputs.now) a.rows.now c.loop-ran.moment ran c.loop-ran.added c.loop-ran.decided c.loop-ran.rows =
    record {
      works = subst (λ (l : List SetState). Works a.st began (inputs_each a.inputs.now) a.rows.now ran (run l) c.loop-ran.rows) same c.loop-ran.invariant.0;
      some = omega (arith, pre.some, each-length a.inputs.now);
      stays-possible = subst (λ (l : List SetState). possible a.st (run l) ≡ true) same c.loop-ran.invariant.4;
    }
    in
    rw all walks
