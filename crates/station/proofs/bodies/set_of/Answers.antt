-- `station::bodies::set_of` meets its contract. Assumes nothing.
use mathlib.Core.Path.{refl, ◌∙◌}
use native.Mathlib.Omega.{arith}
use Rattle.station.proofs.Reading.{number_in, pairs-in}
use Rattle.station.proofs.bodies.set_of.Goals as goal

pub returns : goal.returns
returns c =
    let a = c.args in
    let s = a.s.now in
    λ i. record {
      rating = (c.word_at.ensures ∙ number_in 4 16 0 a.at s (omega arith)) i;
      warmup = (c.word_at-2.ensures ∙ number_in 4 16 1 a.at s (omega arith)) i;
      cooldown = (c.word_at-3.ensures ∙ number_in 4 16 2 a.at s (omega arith)) i;
      interval = (c.word_at-4.ensures ∙ number_in 4 16 3 a.at s (omega arith)) i;
      service = (c.word_at-5.ensures ∙ number_in 4 16 4 a.at s (omega arith)) i;
      points = (c.word_at-6.ensures ∙ number_in 4 16 5 a.at s (omega arith)) i;
      loads = (c.pairs_from.ensures ∙ pairs-in 0 0 a.at s (omega arith) refl) i;
      rates = (c.pairs_from-2.ensures ∙ pairs-in 1 4 a.at s (omega arith) refl) i;
    }
