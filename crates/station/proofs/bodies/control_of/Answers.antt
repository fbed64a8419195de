-- `station::bodies::control_of` meets its contract. Assumes nothing.
use mathlib.Core.Path.{◌∙◌}
use native.Mathlib.Omega.{arith}
use Rattle.station.proofs.Reading.{number_in}
use Rattle.station.proofs.bodies.control_of.Goals as goal

pub returns : goal.returns
returns c =
    let s = c.args.s.now in
    λ i. record {
      spinning = (c.word_at.ensures ∙ number_in 4 9 0 32 s (omega arith)) i;
      coverage = (c.word_at-2.ensures ∙ number_in 4 9 1 32 s (omega arith)) i;
      minload = (c.word_at-3.ensures ∙ number_in 4 9 2 32 s (omega arith)) i;
      shed = (c.word_at-4.ensures ∙ number_in 4 9 3 32 s (omega arith)) i;
      delay = (c.word_at-5.ensures ∙ number_in 4 9 4 32 s (omega arith)) i;
      k = (c.word_at-6.ensures ∙ number_in 4 9 5 32 s (omega arith)) i;
      minseconds = (c.word_at-7.ensures ∙ number_in 4 9 6 32 s (omega arith)) i;
      maintain = (c.word_at-8.ensures ∙ number_in 4 9 7 32 s (omega arith)) i;
      online = (c.word_at-9.ensures ∙ number_in 4 9 8 32 s (omega arith)) i;
    }
