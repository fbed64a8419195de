-- Document 01, "Station A, five seconds, whole": the lines that the run program prints.
use Rattle.std.specs.Prelude.{ℕ, suc, List, [], ◌∷◌, ◌++◌}
use Rattle.rules.specs.declared.run.Row.{Row}
use Rattle.rules.specs.declared.run.SetState.{SetState}
use Rattle.rules.specs.Bytes.{bytes, comma_line}

unfoldable pub row_heading : List ℕ
row_heading = bytes "t,load,shed,solar,charge,spill,give,diesel,unserved,on,sets,call,store\n"

-- a row's thirteen numbers, in the heading's order
abbrev pub columns : Row → List ℕ
columns r =
    r.second
    ∷ r.watts.load
    ∷ r.watts.shed
    ∷ r.watts.solar
    ∷ r.watts.charge
    ∷ r.watts.spill
    ∷ r.watts.give
    ∷ r.watts.diesel
    ∷ r.watts.unserved
    ∷ r.on
    ∷ r.sets
    ∷ r.call
    ∷ r.store
    ∷ []

-- the row's bytes
unfoldable pub row_text : Row → List ℕ
row_text r = comma_line (columns r)

unfoldable pub set_heading : List ℕ
set_heading = bytes "set,run,starts,stops,energy,fuel\n"

-- a line for each set that follows the first n
unfoldable pub set_lines : ℕ → List SetState → List ℕ
set_lines n [] = []
set_lines n (s ∷ states) =
    comma_line (suc n ∷ s.run ∷ s.starts ∷ s.stops ∷ s.energy ∷ s.fuel ∷ []) ++ set_lines (suc n) states

-- "a refusal prints only `refused,number,place`"
unfoldable pub refusal_line : ℕ → ℕ → List ℕ
refusal_line number place = bytes "refused," ++ comma_line (number ∷ place ∷ [])
