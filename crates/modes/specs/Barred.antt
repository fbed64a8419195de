-- Document 01, step 10: "Usable: none of its sets is due (interval > 0, clock >= interval) or in Service."
-- A set that is due or in Service bars every configuration that it is in, so one mask of such sets serves them all.
use Rattle.std.specs.Prelude.{ℕ, Bool, ◌||◌, List}
use Rattle.rules.specs.declared.station.GenSet.{GenSet}
use Rattle.rules.specs.declared.run.SetState.{SetState}
use Rattle.rules.specs.Numbers.{mask_of}
use Rattle.rules.specs.StationRecord.{set_at}
use Rattle.rules.specs.Modes.{state_at, due, in_service}

-- the set at place i bars a configuration that has it
unfoldable pub barred : List GenSet → List SetState → ℕ → Bool
barred sets states i = due (set_at sets i) (state_at states i) || in_service (state_at states i).mode

unfoldable pub barred_mask : List GenSet → List SetState → ℕ
barred_mask sets states = mask_of 8 (barred sets states)
