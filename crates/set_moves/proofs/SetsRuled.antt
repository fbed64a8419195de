-- Of a set whose counts are small, its counts and its command are the rules' own: each fits its type. Assumes nothing.
use Rattle.std.proofs.Common.{◌≡◌, ℕ, zero, suc, ◌+◌, ◌<◌, ◌≤◌, Bool, true, List, get_or, refl, ap, arith, le-ltb}
use Rattle.rules.specs.declared.station.GenSet.{GenSet}
use Rattle.rules.specs.declared.run.Mode.{Mode}
use Rattle.rules.specs.declared.run.Mode.TheVariants.{Off, Warming, On, Cooling, Service}
use Rattle.rules.specs.declared.run.SetState.{SetState}
use Rattle.rules.specs.Numbers.{has, tab}
use Rattle.rules.specs.StationRecord.{set_at, set_right, pairs_right}
use Rattle.rules.specs.Share.{capacity, share}
use Rattle.rules.specs.Fuel.{fuel_rate}
use Rattle.rules.specs.Modes.{state_at, is_on}
use Rattle.rules.specs.Commands.{counted, started, stopped, command, command_from, commanded_all, every_on}
use Rattle.rules.specs.RunRecord.{most_seconds}
use Rattle.rules.proofs.Tests.{choice}
use Rattle.rules.proofs.Tables.{tab-at}
use Rattle.rules.proofs.StationFacts.{rating-range}
use Rattle.laws.proofs.FuelMost.{rate-most}
use Rattle.gensets.specs.Burned.{per_hour}
use Rattle.gensets.specs.Leaves.{shares_told, watts_of, rate_told}
use Rattle.gensets.proofs.FuelFacts.{rate-known}
use Rattle.set_moves.specs.Sized.{Small}
use Rattle.set_moves.specs.InType.{counted_in, switched_in, commanded_all_in}
use Rattle.set_moves.proofs.Fits.{small32, small64, switched-small}

-- two tables that agree at each place
pub same-tab : {A : Type 0} (f g : ℕ → A) (n : ℕ) → ((i : ℕ) → i < n → f i ≡ g i) → tab n f ≡ tab n g
unfolding tab
same-tab f g zero h = refl
same-tab f g (suc n) h = rw (same-tab f g n (λ i l. h i (omega arith)), h n (omega arith))

-- ---- 8, one set

pub shared_at : (sets : List GenSet) (mask diesel i : ℕ) → capacity sets mask ≤ 80_000_000 → diesel ≤ capacity sets mask → i < 8 → get_or (watts_of (shares_told sets mask diesel)) i 0 ≡ share sets mask diesel i
unfolding shares_told
shared_at sets mask diesel i small most l =
    rw (le-ltb 80_000_000 (capacity sets mask) small, le-ltb (capacity sets mask) diesel most) (tab-at (share sets mask diesel) 8 i 0 l)

pub counted-small : (g : GenSet) (s : SetState) (power : ℕ) → is_on s.mode ≡ true → set_right g ≡ true → pairs_right g ≡ true → power ≤ g.rating → Small s
    → counted_in g s power ≡ counted g s power
unfolding counted
counted-small g s power on numbers pairs most small =
    let known : per_hour (rate_told g power) ≡ fuel_rate g power = ap per_hour (rate-known g numbers pairs power (omega arith)) in
    let burns : fuel_rate g power ≤ 15_000_000_000 = rate-most g numbers pairs power most in
    let rated : g.rating ≤ 10_000_000 = (rating-range g numbers).1 in
    rw (
      on,
      known,
      small32 (s.run + 1) (omega (arith, small.run-most)),
      small32 (s.clock + 1) (omega (arith, small.clock-most)),
      small64 (s.energy + power) (omega (arith, small.energy-most, most, rated)),
      small64 (s.fuel + fuel_rate g power) (omega (arith, small.fuel-most, burns)),
    )

-- ---- 11, one set

command-switches : (g : GenSet) (s : SetState) (called release : Bool) (m : Mode) → s.starts ≤ most_seconds → s.stops ≤ most_seconds
    → ((command_from g s called release m).starts ≤ most_seconds + 1) × ((command_from g s called release m).stops ≤ most_seconds + 1)
unfolding command_from
command-switches g s called release Off a b = choice (λ (t : SetState). (t.starts ≤ most_seconds + 1) × (t.stops ≤ most_seconds + 1)) called (started g s) s (λ e. (omega arith, omega arith)) (λ e. (omega arith, omega arith))
command-switches g s called release (Warming n) a b = choice (λ (t : SetState). (t.starts ≤ most_seconds + 1) × (t.stops ≤ most_seconds + 1)) called s (stopped s Off) (λ e. (omega arith, omega arith)) (λ e. (omega arith, omega arith))
command-switches g s called release On a b =
    choice (λ (t : SetState). (t.starts ≤ most_seconds + 1) × (t.stops ≤ most_seconds + 1)) called s _ (λ e. (omega arith, omega arith))
    (λ e. choice (λ (t : SetState). (t.starts ≤ most_seconds + 1) × (t.stops ≤ most_seconds + 1)) release (stopped s (Cooling g.cooldown)) s (λ k. (omega arith, omega arith)) (λ k. (omega arith, omega arith)))
command-switches g s called release (Cooling n) a b = (omega arith, omega arith)
command-switches g s called release (Service n) a b = (omega arith, omega arith)

commanded-small : (g : GenSet) (s : SetState) (called release : Bool) → s.starts ≤ most_seconds → s.stops ≤ most_seconds → switched_in (command g s called release) ≡ command g s called release
unfolding command
commanded-small g s called release a b =
    let most = command-switches g s called release s.mode a b in
    switched-small (command_from g s called release s.mode) (omega (arith, most.0)) (omega (arith, most.1))

pub all-commanded : (sets : List GenSet) (states : List SetState) (mask : ℕ) → ((i : ℕ) → i < 8 → ((state_at states i).starts ≤ most_seconds) × ((state_at states i).stops ≤ most_seconds))
    → commanded_all_in sets states mask ≡ commanded_all sets states mask
unfolding commanded_all_in commanded_all
all-commanded sets states mask small =
    same-tab _ _ 8 (λ i l. commanded-small (set_at sets i) (state_at states i) (has mask i) (every_on states mask) (small i l).0 (small i l).1)

pub counted-switches : (g : GenSet) (s : SetState) (power : ℕ) → ((counted g s power).starts ≡ s.starts) × ((counted g s power).stops ≡ s.stops)
unfolding counted
counted-switches g s power = choice (λ (t : SetState). (t.starts ≡ s.starts) × (t.stops ≡ s.stops)) (is_on s.mode) _ s (λ on. (refl, refl)) (λ off. (refl, refl))
