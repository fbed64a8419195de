-- Document 01, what the run program prints, by what is still to come: the text that a run in a phase has yet to hand over.
use Rattle.std.specs.Prelude.{ℕ, suc, List, [], ◌++◌, take, drop, ltb, if◌then◌else◌}
use Rattle.rules.specs.declared.station.Station.{Station}
use Rattle.rules.specs.declared.run.Inputs.{Inputs}
use Rattle.rules.specs.declared.run.Run.{Run}
use Rattle.rules.specs.declared.run.SetState.{SetState}
use Rattle.rules.specs.Modes.{state_at}
use Rattle.rules.specs.Row.{row_heading, set_heading, set_lines}
use Rattle.rows.specs.AnswerLine.{refused_line}
use Rattle.rows.specs.SetLine.{set_line}
use Rattle.run_phases.specs.declared.state.Phase.{Phase}
use Rattle.run_phases.specs.declared.state.Simulation.{Simulation}
use Rattle.run_texts.specs.Rows.{rows_with, set_texts}

-- what a run in this phase has yet to hand over, where the seconds that are left are handed these inputs; a run that broke off hands
-- over no more of it
unfoldable pub text_of : Phase → Station → Run → List Inputs → List ℕ
text_of (Phase.Refusal refusal) st r xs = refused_line refusal
text_of Phase.Heading st r xs = row_heading ++ rows_with st xs r
text_of Phase.Seconds st r xs = rows_with st xs r
text_of Phase.SetHeading st r xs = set_texts st r
text_of (Phase.SetLine place) st r xs = set_lines place (drop place (take st.setcount r.sets))
text_of Phase.Over st r xs = []
text_of Phase.Broken st r xs = rows_with st xs r

abbrev pub to_print : Simulation → List Inputs → List ℕ
to_print s xs = text_of s.phase s.course.station s.course.run xs

-- ---- line by line

unfoldable pub set_line_at : List SetState → ℕ → List ℕ
set_line_at states place = if ltb place 8 then set_line (suc place) (state_at states place) else []

-- the line that a phase begins with
unfoldable pub line_of : Phase → List SetState → List ℕ
line_of (Phase.Refusal refusal) states = refused_line refusal
line_of Phase.Heading states = row_heading
line_of Phase.Seconds states = []
line_of Phase.SetHeading states = set_heading
line_of (Phase.SetLine place) states = set_line_at states place
line_of Phase.Over states = []
line_of Phase.Broken states = []

-- ---- a run of which one thing changed

abbrev pub with_phase : Simulation → Phase → Simulation
with_phase s phase = record { phase = phase; course = s.course }
