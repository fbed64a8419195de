-- Document 01, "The sample file": what a later row's answer leads to in code.
use Rattle.std.specs.Prelude.{ℕ, ltb, if◌then◌else◌, Ok, Err, Some, None, Result}
use Rattle.sheet_headings.specs.declared.headings.Columns.{Columns}
use Rattle.sheet_stages.specs.declared.stage.Stage.{Stage}
use Rattle.sheet_stages.specs.declared.stage.Turn.{Turn}
use Rattle.rules.specs.declared.answers.Refusal.{Refusal}
use Rattle.rules.specs.declared.samples.Sample.{Sample}

-- a line that gave no row
abbrev pub waiting : Stage → Turn
waiting stage = record { stage = stage; found = None }

-- "A later row whose time is not above the last accepted one is skipped"
abbrev pub after_later : Columns → ℕ → ℕ → Result Sample Refusal → Turn
after_later columns last line (Ok x) =
    if ltb last x.at then record { stage = Stage.LaterRows columns x.at line; found = Some x } else waiting (Stage.LaterRows columns last line)
after_later columns last line (Err r) = waiting (Stage.Refused r)
