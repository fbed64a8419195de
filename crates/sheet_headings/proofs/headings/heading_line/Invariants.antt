-- `sheet_headings::headings::heading_line` meets its contract: what the headings past each one come to decides. Assumes nothing.
use Prim.Native.Nat.{◌≤◌, ◌-◌}
use mathlib.Core.Path.{◌≡◌}
use lib.ListN.{length}
use Rattle.rules.specs.SampleFile.{sample_sheet, heading_line}
use Rattle.sheet_headings.proofs.ColumnsRead.{Right}
use Rattle.sheet_headings.proofs.HeadingLineLaws.{from_there}
use Rattle.sheet_headings.proofs.headings.heading_line.Given as goal

abbrev pub invariant-loop-end : goal.invariant-loop-end
invariant-loop-end l = (l.end ≤ length l.text) × Right l.read × (heading_line sample_sheet.names (record { size = l.size; text = l.text }) ≡ from_there l.read l.text l.end)

abbrev pub decreases-loop-end : goal.decreases-loop-end
decreases-loop-end l = length l.text - l.end
