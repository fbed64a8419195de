-- `records::start::start` meets its contract. Assumes nothing.
use mathlib.Core.Path.{refl, sym, ap, ◌∙◌}
use Rattle.rules.specs.RunRecord.{start_record}
use Rattle.records.specs.NoRun.{at_start}
use Rattle.records.proofs.StartTold.{start-refused, start-accepted}
use Rattle.records.proofs.start.start.Goals as goal

pub returns-then-not-some_file_gives : goal.returns-then-not-some_file_gives
returns-then-not-some_file_gives c =
    rw (start-refused c.args.st (sym c.some_file_gives.ensures ∙ c.if-not-some_file_gives.true)) (record { verdict_value = refl; run_value = c.no_run.ensures })

pub returns : goal.returns
unfolding at_start start_record
returns c =
    let st = c.args.st in
    rw (start-accepted st (sym c.some_file_gives.ensures ∙ c.if-not-some_file_gives.false)) (record { verdict_value = refl; run_value = c.at_start.ensures ∙ ap (at_start st.battery.start) c.states_at_start.ensures })
