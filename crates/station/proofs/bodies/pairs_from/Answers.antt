-- `station::bodies::pairs_from` meets its contract. Assumes nothing.
use mathlib.Core.List.{[], ◌∷◌}
use Rattle.station.proofs.bodies.pairs_from.Goals as goal

pub returns : goal.returns
returns c = λ i. c.word_at.ensures i ∷ c.word_at-2.ensures i ∷ c.word_at-3.ensures i ∷ c.word_at-4.ensures i ∷ c.word_at-5.ensures i ∷ []
