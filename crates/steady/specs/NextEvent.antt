-- While no set changes its mode: for how long it lasts, what is left of its count on the way, and commands that leave every set as
-- it is (document 01, steps 1 and 11).
use Rattle.std.specs.Prelude.{ℕ, ◌+◌, ◌-◌, ◌≤◌, ◌<◌, ◌≡◌, Bool, true, not, ◌||◌, List}
use Rattle.rules.specs.declared.station.GenSet.{GenSet}
use Rattle.rules.specs.declared.run.Mode.{Mode}
use Rattle.rules.specs.declared.run.Mode.TheVariants.{Off, Warming, On, Cooling, Service}
use Rattle.rules.specs.declared.run.SetState.{SetState}
use Rattle.rules.specs.Numbers.{has, all_to}
use Rattle.rules.specs.StationRecord.{set_at}
use Rattle.rules.specs.Modes.{state_at, is_on, with_mode}
use Rattle.rules.specs.Commands.{every_on}

-- no more seconds than this are worked at a stretch
abbrev pub longest : ℕ
longest = 4_294_967_295

-- for how many seconds a mode lasts: a timed one ends at the tick that finds 1 left
unfoldable pub lasts : Mode → ℕ
lasts Off = longest
lasts (Warming n) = n - 1
lasts On = longest
lasts (Cooling n) = n - 1
lasts (Service n) = n - 1

-- a mode after some seconds for which it lasts: "larger counts fall by 1"
unfoldable pub counted_down : Mode → ℕ → Mode
counted_down Off seconds = Off
counted_down (Warming n) seconds = Warming (n - seconds)
counted_down On seconds = On
counted_down (Cooling n) seconds = Cooling (n - seconds)
counted_down (Service n) seconds = Service (n - seconds)

-- a set that is not On after them
abbrev pub waited : SetState → ℕ → SetState
waited s seconds = with_mode s (counted_down s.mode seconds) s.clock

-- so many seconds do not end the set's mode, nor bring it, where it is On, to its service interval; one that is due stays so
pub record NoOwnEvent (g : GenSet) (s : SetState) (seconds : ℕ) : Type 0 where
  pub most : seconds ≤ longest
  pub mode-lasts : seconds ≤ lasts s.mode
  pub not-due : is_on s.mode ≡ true → s.clock < g.interval → s.clock + seconds < g.interval

pub record NoEvent (sets : List GenSet) (states : List SetState) (seconds : ℕ) : Type 0 where
  pub each : (i : ℕ) → i < 8 → NoOwnEvent (set_at sets i) (state_at states i) seconds

-- the commands leave a set as it is: one called is not Off, and one not called is neither Warming nor, where every called set is On, On
unfoldable pub unmoved : Mode → Bool → Bool → Bool
unmoved Off called every_called_on = not called
unmoved (Warming n) called every_called_on = called
unmoved On called every_called_on = called || not every_called_on
unmoved (Cooling n) called every_called_on = true
unmoved (Service n) called every_called_on = true

-- and so every set, where the mask's sets are called
unfoldable pub unmoved_all : List SetState → ℕ → Bool
unmoved_all states mask = all_to 8 (λ i. unmoved (state_at states i).mode (has mask i) (every_on states mask))
