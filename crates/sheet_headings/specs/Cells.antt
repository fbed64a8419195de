-- Document 01, "The sample file": the parts of a line.
use Rattle.std.specs.Prelude.{ℕ, List, [], get_or, drop}
use Rattle.rules.specs.Bytes.{comma, parts}

-- "Comma-separated lines": the heading or cell that starts at a place of the line is the first part of what is left from there
unfoldable pub cell_from : List ℕ → ℕ → List ℕ
cell_from line at = get_or (parts comma (drop at line)) 0 []
