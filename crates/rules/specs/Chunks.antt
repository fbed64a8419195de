-- A file that comes in any list of chunks, empty ones included: the calls one after the other, of which only what `One` says is
-- known. In the theorems `One` is what the function's own contract ensures.
use Rattle.std.specs.Prelude.{ℕ, List, [], ◌∷◌, ◌++◌}

-- the file: its chunks one after the other
unfoldable pub joined : List (List ℕ) → List ℕ
joined [] = []
joined (chunk ∷ chunks) = chunk ++ joined chunks

-- the chunks are handed over one by one, from the first state to the last
pub data Feeds {S : Type 0} (One : S → List ℕ → S → Type 0) : S → List (List ℕ) → S → Type 0 where
  none : {s : S} → Feeds One s [] s
  more : {s t last : S} {chunk : List ℕ} {chunks : List (List ℕ)} → One s chunk t → Feeds One t chunks last → Feeds One s (chunk ∷ chunks) last
