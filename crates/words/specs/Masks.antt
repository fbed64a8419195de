-- The walk over the sets of a mask, place by place. Bit i of a mask is the set at place i, of eight.
use Rattle.std.specs.Prelude.{ℕ, zero, suc, ◌-◌, if◌then◌else◌}
use Rattle.rules.specs.Numbers.{has}

-- the first place of the mask among the d from i on, or i + d
unfoldable pub first_from : ℕ → ℕ → ℕ → ℕ
first_from mask i zero = i
first_from mask i (suc d) = if has mask i then i else first_from mask (suc i) d

-- the first place of the mask from i on, or 8; past the places there is none to look for, and i is the answer
unfoldable pub next_set : ℕ → ℕ → ℕ
next_set mask i = first_from mask i (8 - i)
