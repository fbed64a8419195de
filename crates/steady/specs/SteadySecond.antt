-- A steady second: what is known of the sets before it, and what its steps come to with the sets after its commands.
use Rattle.std.specs.Prelude.{ℕ, ◌+◌, ◌*◌, ◌≤◌, ◌<◌, ◌≡◌, true, List, length}
use Rattle.rules.specs.declared.station.Station.{Station}
use Rattle.rules.specs.declared.run.Inputs.{Inputs}
use Rattle.rules.specs.declared.run.Run.{Run}
use Rattle.rules.specs.declared.run.SetState.{SetState}
use Rattle.rules.specs.Share.{capacity}
use Rattle.rules.specs.Modes.{on_mask}
use Rattle.rules.specs.Flows.{floor_load}
use Rattle.rules.specs.Commands.{commanded_all}
use Rattle.rules.specs.Configuration.{mask_called}
use Rattle.rules.specs.RunRecord.{possible}
use Rattle.rules.specs.Second.{step}
use Rattle.rules.specs.Seconds.{inputs_each}
use Rattle.modes.specs.Barred.{barred_mask}
use Rattle.commitment.specs.Choice.{Rated}
use Rattle.moments.specs.declared.parts.Moment.{Moment}
use Rattle.moments.specs.Parts.{run_of}
use Rattle.dispatch.specs.Working.{Admits, Works}
use Rattle.steady.specs.declared.steady_counts.Added.{Added}
use Rattle.steady.specs.declared.steady_step.Steady.{Steady}
use Rattle.steady.specs.declared.steady_step.Standing.{Standing}
use Rattle.steady.specs.declared.steady_step.AfterSecond.{AfterSecond}
use Rattle.steady.specs.declared.steady_seconds.AfterSeconds.{AfterSeconds}
use Rattle.steady.specs.NextEvent.{NoEvent, unmoved_all}
use Rattle.steady.specs.Steady.{since_steady}

-- what is kept of the sets is theirs
pub record Kept (st : Station) (q : Steady) : Type 0 where
  pub is-on : q.on ≡ on_mask q.states
  pub is-cap : q.cap ≡ capacity st.sets q.on
  pub is-floor : q.floor ≡ floor_load st q.on
  pub is-barred : q.barred ≡ barred_mask st.sets q.states

-- the record where steady seconds stand
abbrev pub run_at : Steady → Standing → List Added → List ℕ → Run
run_at q s added decided = run_of s.moment (since_steady q.states q.on s.ran added) decided

-- the sets after some steady seconds and the commands of the last
abbrev pub commanded_since : Station → Steady → ℕ → List Added → ℕ → List SetState
commanded_since st q ran added called =
    commanded_all st.sets (since_steady q.states q.on ran added) (mask_called st.configs called)

-- what the steps of a steady second owe, with the arrays as they are left: the rules' own, of the record where it stood
pub record SteadyStepped (st : Station) (q : Steady) (s : Standing) (r : Run) (x : Inputs) (g : AfterSecond) (added : List Added) (decided : List ℕ) : Type 0 where
  pub after : run_of g.moment (commanded_since st q (s.ran + 1) added g.moment.called) decided ≡ (step st r x).run
  pub row : g.row ≡ (step st r x).row

-- what a walk over steady seconds may take for granted
pub record Walkable (st : Station) (q : Steady) (m : Moment) (inputs decided : List ℕ) (added : List Added) (rows : List ℕ) : Type 0 where
  pub kept : Kept st q
  pub unmoved : unmoved_all q.states q.called ≡ true
  pub called : mask_called st.configs m.called ≡ q.called
  pub no-event : NoEvent st.sets q.states (length (inputs_each inputs))
  pub admits : Admits st (run_of m (since_steady q.states q.on 0 added) decided) (inputs_each inputs)
  pub some : 0 < length (inputs_each inputs)
  pub room : 13 * length (inputs_each inputs) ≤ length rows
  pub sixty : length decided ≡ 60

-- what it owes: some seconds are worked, and the record is possible
pub record Walks (st : Station) (q : Steady) (r : Run) (xs : List Inputs) (lent : List ℕ) (m : Moment) (ran : ℕ) (added : List Added) (decided rows : List ℕ) : Type 0 where
  pub works : Works st r xs lent ran (run_of m (commanded_since st q ran added m.called) decided) rows
  pub some : 0 < ran
  pub stays-possible : possible st (run_of m (commanded_since st q ran added m.called) decided) ≡ true

-- what the seconds from a place on may take for granted
pub record Workable (st : Station) (states : List SetState) (m : Moment) (caps inputs decided rows : List ℕ) : Type 0 where
  pub admits : Admits st (run_of m states decided) (inputs_each inputs)
  pub room : 13 * length (inputs_each inputs) ≤ length rows
  pub some : 0 < length (inputs_each inputs)
  pub sixty : length decided ≡ 60
  pub rated : Rated st.sets st.configs caps

-- what they owe: some are worked, as the rules have them
pub record GoesOn (st : Station) (states : List SetState) (m : Moment) (inputs decided rows : List ℕ) (w : AfterSeconds) (decided' rows' : List ℕ) : Type 0 where
  pub works : Works st (run_of m states decided) (inputs_each inputs) rows w.seconds (run_of w.moment w.states decided') rows'
  pub some : 0 < w.seconds

-- for so many seconds no set changes its mode; none, where commands to the sets called would change one
pub record SteadyFor (st : Station) (states : List SetState) (called seconds : ℕ) : Type 0 where
  pub no-event : NoEvent st.sets states seconds
  pub unmoved : 0 < seconds → unmoved_all states called ≡ true
