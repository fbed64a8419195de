-- Document 01, steps 1, 8 and 11, of the set at a place: its service clock is the seconds run since the last service, its run seconds,
-- energy and fuel grow where the mask has it, and nowhere else. And the station totals grow by the row's columns. Assumes nothing.
use Rattle.std.specs.Prelude.{if◌then◌else◌}
use Prim.Native.Nat.{ℕ, ◌+◌, ◌-◌, ◌<◌}
use mathlib.Core.Path.{◌≡◌, refl, sym, ap, ◌∙◌}
use mathlib.Core.Bool.{Bool, true, false, not, ◌&&◌}
use mathlib.Core.List.{List, [], ◌∷◌}
use native.Mathlib.Omega.{arith}
use lib.Dec.{leb}
use lib.ListN.{take, drop}
use Rattle.rules.specs.declared.station.GenSet.{GenSet}
use Rattle.rules.specs.declared.station.Station.{Station}
use Rattle.rules.specs.declared.run.Inputs.{Inputs}
use Rattle.rules.specs.declared.run.Mode.{Mode}
use Rattle.rules.specs.declared.run.Mode.TheVariants.{Off, Warming, On, Cooling, Service}
use Rattle.rules.specs.declared.run.Run.{Run}
use Rattle.rules.specs.declared.run.SetState.{SetState}
use Rattle.rules.specs.Quantities.{Totals}
use Rattle.rules.specs.Numbers.{has}
use Rattle.rules.specs.StationRecord.{set_at}
use Rattle.rules.specs.Share.{share}
use Rattle.rules.specs.Fuel.{fuel_rate}
use Rattle.rules.specs.Modes.{fresh, state_at, is_on, in_service, with_mode, tick_from, tick, ticked, on_mask}
use Rattle.rules.specs.Commands.{counted, counted_all, started, stopped, command_from, command, every_on, commanded_all}
use Rattle.rules.specs.Row.{columns}
use Rattle.rules.specs.Flows.{watts_with, watts_for}
use Rattle.rules.specs.Second.{watts_now, record_after, row_after, step}
use Rattle.rules.proofs.Tests.{never}
use Rattle.rules.proofs.Tables.{tab-at}
use Rattle.rules.proofs.Masks.{mask-has}

-- ---- "the sets On"

-- no other mode is On
pub on-told : (m : Mode) → is_on m ≡ true → m ≡ On
on-told Off e = never e
on-told (Warming n) e = never e
on-told On e = refl
on-told (Cooling n) e = never e
on-told (Service n) e = never e

-- ---- one set through each step

-- a number of one of two states
either : (f : SetState → ℕ) (b : Bool) (x y : SetState) (n : ℕ) → f x ≡ n → f y ≡ n → f (if b then x else y) ≡ n
either f true x y n p q = p
either f false x y n p q = q

-- step 1 changes mode and clock alone
tick-keeps : (f : SetState → ℕ) (g : GenSet) (s : SetState) → ((m : Mode) (clock : ℕ) → f (with_mode s m clock) ≡ f s) → (m : Mode) → f (tick_from g s m) ≡ f s
unfolding tick_from
tick-keeps f g s kept Off = refl
tick-keeps f g s kept (Warming n) = kept _ _
tick-keeps f g s kept On = refl
tick-keeps f g s kept (Cooling n) = kept _ _
tick-keeps f g s kept (Service n) = either f (leb n 1) _ _ (f s) (kept _ _) (kept _ _)

-- "Service 1 becomes Off with its service clock 0": the clock is 0 where a service has ended, and else as it was
abbrev pub served : Mode → Mode → Bool
served before after = in_service before && not (in_service after)

tick-clock : (g : GenSet) (s : SetState) (m : Mode) → (tick_from g s m).clock ≡ (if served m (tick_from g s m).mode then 0 else s.clock)
unfolding tick_from
tick-clock g s Off = refl
tick-clock g s (Warming n) = refl
tick-clock g s On = refl
tick-clock g s (Cooling n) = refl
tick-clock g s (Service n) = go (leb n 1)
  where
    go : (b : Bool) → (if b then with_mode s Off 0 else with_mode s (Service (n - 1)) s.clock).clock
        ≡ (if served (Service n) (if b then with_mode s Off 0 else with_mode s (Service (n - 1)) s.clock).mode then 0 else s.clock)
    go true = refl
    go false = refl

-- step 8 leaves the mode, and adds to the counts where the set is On
count-mode : (g : GenSet) (s : SetState) (power : ℕ) (b : Bool) → is_on s.mode ≡ b → (counted g s power).mode ≡ s.mode
unfolding counted
count-mode g s power true e = rw e
count-mode g s power false e = rw e

count-adds : (f : SetState → ℕ) (n : ℕ) (g : GenSet) (s : SetState) (power : ℕ) → (is_on s.mode ≡ true → f (counted g s power) ≡ f s + n) → (b : Bool) → is_on s.mode ≡ b → f (counted g s power) ≡ f s + (if b then n else 0)
unfolding counted
count-adds f n g s power grows true e = grows e
count-adds f n g s power grows false e = rw e (omega arith)

count-clock : (g : GenSet) (s : SetState) (power : ℕ) → is_on s.mode ≡ true → (counted g s power).clock ≡ s.clock + 1
unfolding counted
count-clock g s power e = rw e

count-run : (g : GenSet) (s : SetState) (power : ℕ) → is_on s.mode ≡ true → (counted g s power).run ≡ s.run + 1
unfolding counted
count-run g s power e = rw e

count-energy : (g : GenSet) (s : SetState) (power : ℕ) → is_on s.mode ≡ true → (counted g s power).energy ≡ s.energy + power
unfolding counted
count-energy g s power e = rw e

count-fuel : (g : GenSet) (s : SetState) (power : ℕ) → is_on s.mode ≡ true → (counted g s power).fuel ≡ s.fuel + fuel_rate g power
unfolding counted
count-fuel g s power e = rw e

-- step 11 moves no number but starts and stops
command-keeps : (f : SetState → ℕ) (g : GenSet) (s : SetState) → f (started g s) ≡ f s → ((m : Mode) → f (stopped s m) ≡ f s) → (called release : Bool) (m : Mode) → f (command_from g s called release m) ≡ f s
unfolding command_from
command-keeps f g s starts stops called release Off = either f called _ _ (f s) starts refl
command-keeps f g s starts stops called release (Warming n) = either f called _ _ (f s) refl (stops Off)
command-keeps f g s starts stops called release On = either f called _ _ (f s) refl (either f release _ _ (f s) (stops (Cooling g.cooldown)) refl)
command-keeps f g s starts stops called release (Cooling n) = refl
command-keeps f g s starts stops called release (Service n) = refl

-- ---- the set at a place, through a second

module _ (sets : List GenSet) (states : List SetState) (diesel called i : ℕ) (l : i < 8) where
  abbrev modes : List SetState
  modes = ticked sets states

  abbrev mask : ℕ
  mask = on_mask modes

  abbrev ran : List SetState
  ran = counted_all sets modes mask diesel

  abbrev power : ℕ
  power = share sets mask diesel i

  ticked-at : state_at modes i ≡ tick (set_at sets i) (state_at states i)
  unfolding ticked state_at
  ticked-at = tab-at (λ j. tick (set_at sets j) (state_at states j)) 8 i (fresh Off) l

  ran-at : state_at ran i ≡ counted (set_at sets i) (state_at modes i) power
  unfolding counted_all state_at
  ran-at = tab-at (λ j. counted (set_at sets j) (state_at modes j) (share sets mask diesel j)) 8 i (fresh Off) l

  commanded-at : state_at (commanded_all sets ran called) i ≡ command (set_at sets i) (state_at ran i) (has called i) (every_on ran called)
  unfolding commanded_all state_at
  commanded-at = tab-at (λ j. command (set_at sets j) (state_at ran j) (has called j) (every_on ran called)) 8 i (fresh Off) l

  on-is : is_on (state_at modes i).mode ≡ has mask i
  unfolding on_mask
  on-is = sym (mask-has (λ j. is_on (state_at modes j).mode) 8 i l)

  pub ran-mode : (state_at ran i).mode ≡ (state_at modes i).mode
  ran-mode = ap (λ (s : SetState). s.mode) ran-at ∙ count-mode (set_at sets i) (state_at modes i) power (has mask i) on-is

  -- ---- the clock: "The replayed clock is the seconds run since the last service"

  -- a service ended in step 1
  abbrev service_ended : Bool
  service_ended = served (state_at states i).mode (state_at modes i).mode

  modes-clock : (state_at modes i).clock ≡ (if service_ended then 0 else (state_at states i).clock)
  unfolding tick
  modes-clock = ap (λ (s : SetState). s.clock) ticked-at ∙ tick-clock (set_at sets i) (state_at states i) (state_at states i).mode
      ∙ ap (λ (m : Mode). if served (state_at states i).mode m then 0 else (state_at states i).clock) (ap (λ (s : SetState). s.mode) (sym ticked-at))

  pub ran-clock : (state_at ran i).clock ≡ (if service_ended then 0 else (state_at states i).clock) + (if has mask i then 1 else 0)
  ran-clock =
      ap (λ (s : SetState). s.clock) ran-at ∙ count-adds (λ x. x.clock) 1 (set_at sets i) (state_at modes i) power (count-clock (set_at sets i) (state_at modes i) power) (has mask i) on-is
      ∙ ap (λ (n : ℕ). n + (if has mask i then 1 else 0)) modes-clock

  pub clock-after : (state_at (commanded_all sets ran called) i).clock ≡ (state_at ran i).clock
  unfolding command
  clock-after = ap (λ (s : SetState). s.clock) commanded-at ∙ command-keeps (λ x. x.clock) (set_at sets i) (state_at ran i) refl (λ m. refl) (has called i) (every_on ran called) (state_at ran i).mode

  -- ---- the counts: each grows where the mask has the set, and nowhere else

  number-after : (f : SetState → ℕ) (n : ℕ) → ((s : SetState) (m : Mode) (clock : ℕ) → f (with_mode s m clock) ≡ f s)
      → (is_on (state_at modes i).mode ≡ true → f (counted (set_at sets i) (state_at modes i) power) ≡ f (state_at modes i) + n)
      → ((s : SetState) → f (started (set_at sets i) s) ≡ f s) → ((s : SetState) (m : Mode) → f (stopped s m) ≡ f s)
      → f (state_at (commanded_all sets ran called) i) ≡ f (state_at states i) + (if has mask i then n else 0)
  unfolding command tick
  number-after f n kept grows starts stops =
      ap f commanded-at
      ∙ command-keeps f (set_at sets i) (state_at ran i) (starts (state_at ran i)) (stops (state_at ran i)) (has called i) (every_on ran called) (state_at ran i).mode
      ∙ ap f ran-at
      ∙ count-adds f n (set_at sets i) (state_at modes i) power grows (has mask i) on-is
      ∙ ap (λ (k : ℕ). k + (if has mask i then n else 0)) (ap f ticked-at ∙ tick-keeps f (set_at sets i) (state_at states i) (kept (state_at states i)) (state_at states i).mode)

  pub run-after : (state_at (commanded_all sets ran called) i).run ≡ (state_at states i).run + (if has mask i then 1 else 0)
  run-after = number-after (λ s. s.run) 1 (λ s m c. refl) (count-run (set_at sets i) (state_at modes i) power) (λ s. refl) (λ s m. refl)

  pub energy-after : (state_at (commanded_all sets ran called) i).energy ≡ (state_at states i).energy + (if has mask i then power else 0)
  energy-after = number-after (λ s. s.energy) power (λ s m c. refl) (count-energy (set_at sets i) (state_at modes i) power) (λ s. refl) (λ s m. refl)

  pub fuel-after : (state_at (commanded_all sets ran called) i).fuel ≡ (state_at states i).fuel + (if has mask i then fuel_rate (set_at sets i) power else 0)
  fuel-after = number-after (λ s. s.fuel) (fuel_rate (set_at sets i) power) (λ s m c. refl) (count-fuel (set_at sets i) (state_at modes i) power) (λ s. refl) (λ s m. refl)

-- ---- "station totals (solar offered and each watt column of the row)"

-- the totals in the order of the row's columns, the solar offered first
abbrev pub listed : Totals → List ℕ
listed t = t.offered ∷ t.load ∷ t.shed ∷ t.solar ∷ t.charge ∷ t.spill ∷ t.give ∷ t.diesel ∷ t.unserved ∷ []

-- number by number
abbrev pub added : List ℕ → List ℕ → List ℕ
added [] ys = []
added (x ∷ xs) [] = x ∷ xs
added (x ∷ xs) (y ∷ ys) = (x + y) ∷ added xs ys

-- each grows by its own column of the second's row, and the solar offered by what was handed in
pub totals-grow : (st : Station) (r : Run) (x : Inputs) → listed (step st r x).run.totals ≡ added (listed r.totals) (x.solar ∷ take 8 (drop 1 (columns (step st r x).row)))
unfolding step record_after row_after watts_now watts_for watts_with
totals-grow st r x = refl
