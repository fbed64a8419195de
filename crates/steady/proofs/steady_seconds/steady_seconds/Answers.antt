-- `steady::steady_seconds::steady_seconds` meets its contract. Assumes nothing.
use mathlib.Core.Path.{◌≡◌, sym, ◌∙◌, subst}
use mathlib.Core.Bool.{true}
use mathlib.Core.List.{List}
use native.Mathlib.Omega.{arith}
use lib.ListN.{length, replicate, get_or-replicate}
use Rattle.rules.specs.declared.run.Run.{Run}
use Rattle.rules.specs.declared.run.SetState.{SetState}
use Rattle.rules.specs.StationRecord.{some_file_gives}
use Rattle.rules.specs.RunRecord.{possible}
use Rattle.rules.specs.Seconds.{inputs_each}
use Rattle.rules.proofs.Shapes.{Tables}
use Rattle.moments.specs.Parts.{run_of}
use Rattle.dispatch.specs.Working.{Admits, Works}
use Rattle.set_moves.proofs.SetsRuled.{all-commanded}
use Rattle.dispatch.proofs.Working.{first-admitted}
use Rattle.steady.specs.declared.steady_counts.Added.{Added}
use Rattle.steady.specs.Steady.{since_steady}
use Rattle.steady.specs.SteadySecond.{commanded_since}
use Rattle.steady.proofs.SteadyEnds.{none-ran, small-made, switches-made}
use borrow.Author.Rules.{rules}
use Rattle.steady.proofs.steady_seconds.steady_seconds.Goals as goal
use Rattle.steady.proofs.steady_seconds.steady_seconds.Goals.{Start}

-- the station's tables have their lengths, and there are eight states
tables : (c : Start) → Tables c.args.st
tables c = record { sets-length = search rules; configs-length = search rules }

eight : (c : Start) → length c.args.steady.now.states ≡ 8
eight c = search rules

-- nothing added to any set
abbrev none : List Added
none = replicate 8 (record { energy = 0; fuel = 0 })

module _ (c : Start) where
  abbrev r : Run
  r = run_of c.args.moment c.args.steady.now.states c.args.decided.now

  given : some_file_gives c.args.st ≡ true
  given = (first-admitted c.requires.0.admits c.requires.0.some (record { load = 0; solar = 0; sheddable = 0 })).station-given

  was-possible : possible c.args.st r ≡ true
  was-possible = (first-admitted c.requires.0.admits c.requires.0.some (record { load = 0; solar = 0; sheddable = 0 })).record-possible

  -- before the first second nothing is added to the states
  at_first : since_steady c.args.steady.now.states c.args.steady.now.on 0 none ≡ c.args.steady.now.states
  at_first = none-ran c.args.steady.now.states c.args.steady.now.on none (eight c) (λ i l. get_or-replicate 8 i _ _ l)

pub steady_walk-walked-requires : goal.steady_walk-walked-requires
steady_walk-walked-requires c =
    let a = c.args in
    let pre = c.requires in (
      record {
        kept = pre.1;
        unmoved = pre.2;
        called = pre.3;
        no-event = pre.4;
        admits = subst (λ (l : List SetState). Admits a.st (run_of a.moment l a.decided.now) (inputs_each a.inputs.now)) (sym (at_first (goal.at.steady_walk-walked-requires c).Start)) pre.0.admits;
        some = pre.0.some;
        room = pre.0.room;
        sixty = pre.0.sixty;
      },
      pre.0.rated,
      c.tables_of-tables.ensures,
    )

pub overflow_cast-walked : goal.overflow_cast-walked
overflow_cast-walked c =
    record { fits = omega (arith, c.steady_walk-walked.ensures.works.most, (c.requires.4.each 0 (omega arith)).most) }

pub made-ran-requires : goal.made-ran-requires
made-ran-requires c =
    record {
      small = small-made c.args.st (given (goal.at.made-ran-requires c).Start) c.args.steady.now.states c.args.steady.now.on c.requires.1.is-on c.steady_walk-walked.result.ran c.steady_walk-walked.new.added c.steady_walk-walked.result.moment c.steady_walk-walked.new.decided _ c.steady_walk-walked.ensures.stays-possible;
    }

pub returns : goal.returns
returns c =
    let a = c.args in
    let states : List SetState = commanded_since a.st a.steady.now c.steady_walk-walked.result.ran c.steady_walk-walked.new.added c.steady_walk-walked.result.moment.called in
    let commanded : c.command_all-states.result ≡ states =
    c.command_all-states.ensures ∙ rw (c.made-ran.ensures, c.mask_called.ensures.value) (all-commanded a.st.sets _ _ (switches-made c.args.st (given (goal.at.returns c).Start) c.args.steady.now.states c.args.steady.now.on c.requires.1.is-on c.steady_walk-walked.result.ran c.steady_walk-walked.new.added c.steady_walk-walked.result.moment c.steady_walk-walked.new.decided _ c.steady_walk-walked.ensures.stays-possible))
    in
    let ran : List SetState → Run = λ l. run_of c.steady_walk-walked.result.moment l c.steady_walk-walked.new.decided in
    record {
      works =
          subst (λ (l : List SetState). Works a.st (run_of a.moment l a.decided.now) (inputs_each a.inputs.now) a.rows.now c.steady_walk-walked.result.ran (ran c.command_all-states.result) c.steady_walk-walked.new.rows) (at_first (goal.at.returns c).Start)
          (subst (λ (l : List SetState). Works a.st (run_of a.moment (since_steady a.steady.now.states a.steady.now.on 0 none) a.decided.now) (inputs_each a.inputs.now) a.rows.now c.steady_walk-walked.result.ran (ran l) c.steady_walk-walked.new.rows) (sym commanded) c.steady_walk-walked.ensures.works);
      some = c.steady_walk-walked.ensures.some;
    }
