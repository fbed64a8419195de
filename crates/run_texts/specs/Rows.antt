-- Document 01, the text of some seconds: their rows, one after the other, and then the sets.
use Rattle.std.specs.Prelude.{ℕ, List, ◌++◌, take}
use Rattle.rules.specs.declared.station.Station.{Station}
use Rattle.rules.specs.declared.run.Inputs.{Inputs}
use Rattle.rules.specs.declared.run.Run.{Run}
use Rattle.rules.specs.Row.{set_heading, set_lines}
use Rattle.row_texts.specs.RowLines as lines
use Rattle.dispatch.specs.Working.{rows_of, run_after}

-- the rows of the seconds of these inputs, from a record on
abbrev pub row_texts : Station → List Inputs → Run → List ℕ
row_texts st xs r = lines.text_of (rows_of st xs r)

-- the sets' heading and lines
unfoldable pub set_texts : Station → Run → List ℕ
set_texts st r = set_heading ++ set_lines 0 (take st.setcount r.sets)

-- the rows and then the sets
unfoldable pub rows_with : Station → List Inputs → Run → List ℕ
rows_with st xs r = row_texts st xs r ++ set_texts st (run_after st xs r)
