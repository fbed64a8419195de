-- What the bytes of a row show: decimal numbers between commas. Nothing here knows how a row is written.
use Rattle.std.specs.Prelude.{ℕ, zero, suc, ◌+◌, List, [], ◌∷◌, map, get_or}
use Rattle.rules.specs.declared.run.Inputs.{Inputs}
use Rattle.rules.specs.Bytes.{LF, comma, parts, value}

-- the numbers of a line, without its LF
unfoldable pub numbers_in : List ℕ → List ℕ
numbers_in line = map (λ cell. value cell) (parts comma line)

-- the columns, by their headings: "t,load,shed,solar,charge,spill,give,diesel,unserved,on,sets,call,store"
pub record Shown : Type 0 where
  pub second : ℕ
  pub load : ℕ
  pub shed : ℕ
  pub solar : ℕ
  pub charge : ℕ
  pub spill : ℕ
  pub give : ℕ
  pub diesel : ℕ
  pub unserved : ℕ
  pub on : ℕ
  pub sets : ℕ
  pub call : ℕ
  pub store : ℕ

abbrev pub in_columns : List ℕ → Shown
in_columns ns =
    record {
      second = get_or ns 0 0;
      load = get_or ns 1 0;
      shed = get_or ns 2 0;
      solar = get_or ns 3 0;
      charge = get_or ns 4 0;
      spill = get_or ns 5 0;
      give = get_or ns 6 0;
      diesel = get_or ns 7 0;
      unserved = get_or ns 8 0;
      on = get_or ns 9 0;
      sets = get_or ns 10 0;
      call = get_or ns 11 0;
      store = get_or ns 12 0;
    }

unfoldable pub shown_in : List ℕ → Shown
shown_in line = in_columns (numbers_in line)

-- of a text its first line
unfoldable pub shown : List ℕ → Shown
shown text = shown_in (get_or (parts LF text) 0 [])

-- an accepted second: what it was handed, and what the row that it wrote shows
pub record Worked : Type 0 where
  pub inputs : Inputs
  pub row : Shown

-- the first n of some seconds, each with its line
unfoldable pub rows_of : List Inputs → ℕ → List (List ℕ) → List Worked
rows_of xs zero lines = []
rows_of [] (suc n) lines = []
rows_of (x ∷ xs) (suc n) [] = []
rows_of (x ∷ xs) (suc n) (line ∷ lines) = record { inputs = x; row = shown_in line } ∷ rows_of xs n lines

-- a number of each second, summed
unfoldable pub total : (Worked → ℕ) → List Worked → ℕ
total f [] = 0
total f (s ∷ ss) = f s + total f ss
