-- `put_again` meets its contract. Assumes nothing.
use mathlib.Core.Path.{refl, ◌∙◌}
use native.Mathlib.Omega.{arith}
use Rattle.row_texts.proofs.Again.{again}
use Rattle.row_texts.proofs.put_rows.put_again.Goals as goal

pub returns : goal.returns
returns c =
    let a = c.args in
    (refl, c.copy_within.ensures.after ∙ again a.buffer.now a.from a.size a.at (omega (arith, c.requires.0, c.requires.1)))
