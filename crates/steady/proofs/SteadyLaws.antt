-- Steady seconds by the tables of the sets: the mask of the sets On and that of the barred ones stay, the tick counts the modes down, the
-- counts are those beside the states, and the commands change nothing. Assumes nothing.
use Prim.Native.Nat.{ℕ, zero, suc, ◌+◌, ◌≤◌, ◌<◌}
use mathlib.Core.Path.{◌≡◌, refl, sym, ap, ◌∙◌}
use mathlib.Core.Bool.{Bool, true, false, not, ◌&&◌, ◌||◌}
use mathlib.Core.List.{List}
use native.Mathlib.Omega.{arith}
use native.Mathlib.Decide.{dec_lt}
use lib.Dec.{leb, ltb}
use borrow.Author.Tests.{le-leb, lt-leb}
use Rattle.rules.specs.declared.station.GenSet.{GenSet}
use Rattle.rules.specs.declared.run.Mode.TheVariants.{Off}
use Rattle.rules.specs.declared.run.SetState.{SetState}
use Rattle.rules.specs.Numbers.{has, all_to, tab, mask_of}
use Rattle.rules.specs.StationRecord.{set_at}
use Rattle.rules.specs.Share.{share}
use Rattle.rules.specs.Fuel.{fuel_rate}
use Rattle.rules.specs.Modes.{fresh, state_at, is_on, in_service, due, tick, ticked, on_mask}
use Rattle.rules.specs.Commands.{counted, counted_all, command_from, command, every_on, commanded_all}
use Rattle.modes.specs.Barred.{barred, barred_mask}
use Rattle.rules.proofs.Tests.{to_at, choice}
use Rattle.rules.proofs.Tables.{tab-at}
use Rattle.rules.proofs.Masks.{mask-has}
use Rattle.steady.specs.NextEvent.{counted_down, waited, NoEvent, unmoved, unmoved_all}
use Rattle.steady.specs.declared.steady_counts.Added.{Added}
use Rattle.steady.specs.Steady.{added_to, ran_for, steady_at, since_steady, added_at, added_after}
use Rattle.steady.proofs.EventLaws.{on-stays, service-stays, on-uncounted, tick-on, tick-waited, command-stays}

-- ---- tables, masks and tests of the same places are the same

pub tab-same : {A : Type 0} (f g : ℕ → A) (n : ℕ) → ((i : ℕ) → i < n → f i ≡ g i) → tab n f ≡ tab n g
unfolding tab
tab-same f g zero h = refl
tab-same f g (suc n) h =
    let before = tab-same f g n (λ i l. h i (omega arith)) in
    rw (before, h n (omega arith))

mask-same : (p q : ℕ → Bool) (n : ℕ) → ((i : ℕ) → i < n → p i ≡ q i) → mask_of n p ≡ mask_of n q
unfolding mask_of
mask-same p q zero h = refl
mask-same p q (suc n) h =
    let before = mask-same p q n (λ i l. h i (omega arith)) in
    rw (before, h n (omega arith))

all_same : (p q : ℕ → Bool) (n : ℕ) → ((i : ℕ) → i < n → p i ≡ q i) → all_to n p ≡ all_to n q
unfolding all_to
all_same p q zero h = refl
all_same p q (suc n) h =
    let before = all_same p q n (λ i l. h i (omega arith)) in
    rw (before, h n (omega arith))

-- ---- one set

counts-run : (g : GenSet) (s : SetState) (seconds : ℕ) (own : Added) (power : ℕ) → is_on s.mode ≡ true
    → counted g (ran_for s seconds own) power ≡ ran_for s (seconds + 1) (record { energy = own.energy + power; fuel = own.fuel + fuel_rate g power })
unfolding counted
counts-run g s seconds own power on =
    let a : s.run + seconds + 1 ≡ s.run + (seconds + 1) = omega arith in
    let b : s.clock + seconds + 1 ≡ s.clock + (seconds + 1) = omega arith in
    let c : s.energy + own.energy + power ≡ s.energy + (own.energy + power) = omega arith in
    let d : s.fuel + own.fuel + fuel_rate g power ≡ s.fuel + (own.fuel + fuel_rate g power) = omega arith in
    rw (on, a, b, c, d)

counts-idle : (g : GenSet) (s : SetState) (power : ℕ) → is_on s.mode ≡ false → counted g s power ≡ s
unfolding counted
counts-idle g s power off = rw off

-- a set On that is due stays so, and one that is not is not yet
due-stays : (g : GenSet) (s : SetState) (seconds : ℕ) (own : Added) → (s.clock < g.interval → s.clock + seconds < g.interval)
    → due g (ran_for s seconds own) ≡ due g s
unfolding due
due-stays g s seconds own h = go (dec_lt s.clock g.interval)
  where
    go : Dec (s.clock < g.interval) → (ltb 0 g.interval && leb g.interval (s.clock + seconds)) ≡ (ltb 0 g.interval && leb g.interval s.clock)
    go (yes l) = rw (lt-leb g.interval (s.clock + seconds) (h l), lt-leb g.interval s.clock l)
    go (no l) =
        let a : g.interval ≤ s.clock = omega (arith, l) in
        let b : g.interval ≤ s.clock + seconds = omega arith in
        rw (le-leb g.interval (s.clock + seconds) b, le-leb g.interval s.clock a)

-- ---- all sets

module _ (sets : List GenSet) (base : List SetState) (on : ℕ) (is-on : on ≡ on_mask base) where
  on-has : (i : ℕ) → i < 8 → has on i ≡ is_on (state_at base i).mode
  unfolding on_mask
  on-has i l = ap (λ (m : ℕ). has m i) is-on ∙ mask-has (λ j. is_on (state_at base j).mode) 8 i l

  module _ (seconds : ℕ) (added : List Added) where
    abbrev at : ℕ → SetState
    at i = steady_at base on seconds added i

    abbrev now : List SetState
    now = since_steady base on seconds added

    pub steady-at : (i : ℕ) → i < 8 → state_at now i ≡ at i
    unfolding state_at since_steady
    steady-at i l = tab-at (steady_at base on seconds added) 8 i (fresh Off) l

    mode-at : (i : ℕ) → i < 8 → (at i).mode ≡ counted_down (state_at base i).mode seconds
    unfolding steady_at
    mode-at i l =
        choice (λ (s : SetState). s.mode ≡ counted_down (state_at base i).mode seconds) (has on i) _ _
        (λ e. on-uncounted (state_at base i).mode seconds (sym (on-has i l) ∙ e))
        (λ e. refl)

    mode-now : (i : ℕ) → i < 8 → (state_at now i).mode ≡ counted_down (state_at base i).mode seconds
    mode-now i l = ap (λ (s : SetState). s.mode) (steady-at i l) ∙ mode-at i l

    -- step 11

    steady-every : (mask : ℕ) → every_on now mask ≡ every_on base mask
    unfolding every_on
    steady-every mask =
        all_same (λ i. not (has mask i) || is_on (state_at now i).mode) (λ i. not (has mask i) || is_on (state_at base i).mode) 8
        (λ i l. ap (λ (b : Bool). not (has mask i) || b) (ap is_on (mode-now i l) ∙ on-stays (state_at base i).mode seconds))

    pub steady-commanded : (called : ℕ) → unmoved_all base called ≡ true → commanded_all sets now called ≡ now
    unfolding commanded_all command since_steady unmoved_all
    steady-commanded called h =
        let left : (i : ℕ) → i < 8 → unmoved (state_at base i).mode (has called i) (every_on now called) ≡ true =
        λ i l. ap (λ (b : Bool). unmoved (state_at base i).mode (has called i) b) (steady-every called) ∙ to_at (λ j. unmoved (state_at base j).mode (has called j) (every_on base called)) 8 h i l in
        tab-same (λ i. command_from (set_at sets i) (state_at now i) (has called i) (every_on now called) (state_at now i).mode) (steady_at base on seconds added) 8
        (λ i l. command-stays (set_at sets i) (state_at now i) (has called i) (every_on now called) (state_at base i).mode seconds (mode-now i l) (left i l) ∙ steady-at i l)

    -- step 10

    due-at : (i : ℕ) → i < 8 → NoEvent sets base seconds → due (set_at sets i) (at i) ≡ due (set_at sets i) (state_at base i)
    unfolding steady_at due
    due-at i l h =
        choice (λ (s : SetState). due (set_at sets i) s ≡ due (set_at sets i) (state_at base i)) (has on i) _ _
        (λ e. due-stays (set_at sets i) (state_at base i) seconds (added_to added i) ((h.each i l).not-due (sym (on-has i l) ∙ e)))
        (λ e. refl)

    pub steady-barred : NoEvent sets base seconds → barred_mask sets base ≡ barred_mask sets now
    unfolding barred_mask barred
    steady-barred h =
        mask-same (λ i. due (set_at sets i) (state_at base i) || in_service (state_at base i).mode) (λ i. due (set_at sets i) (state_at now i) || in_service (state_at now i).mode) 8
        (λ i l. sym (
        ap (λ (s : SetState). due (set_at sets i) s || in_service (state_at now i).mode) (steady-at i l)
        ∙ ap (λ (b : Bool). b || in_service (state_at now i).mode) (due-at i l h)
        ∙ ap (λ (b : Bool). due (set_at sets i) (state_at base i) || b) (ap in_service (mode-now i l) ∙ service-stays (state_at base i).mode seconds)))

    -- one second more: steps 1, 2 and 8
    module _ (lasting : NoEvent sets base (seconds + 1)) where
      abbrev later : List SetState
      later = ticked sets now

      -- a set after the tick: a set On is as it was, and any other has waited a second more
      later-is : (i : ℕ) → i < 8 → state_at later i ≡ tick (set_at sets i) (at i)
      unfolding state_at ticked
      later-is i l = tab-at (λ j. tick (set_at sets j) (state_at now j)) 8 i (fresh Off) l ∙ ap (tick (set_at sets i)) (steady-at i l)

      pub later-on : (i : ℕ) → i < 8 → has on i ≡ true → state_at later i ≡ ran_for (state_at base i) seconds (added_to added i)
      unfolding steady_at tick
      later-on i l e =
          later-is i l
          ∙ (rw e (tick-on (set_at sets i) (ran_for (state_at base i) seconds (added_to added i)) (state_at base i).mode (sym (on-has i l) ∙ e)))

      later-waited : (i : ℕ) → i < 8 → has on i ≡ false → state_at later i ≡ waited (state_at base i) (seconds + 1)
      unfolding steady_at
      later-waited i l e = later-is i l ∙ (rw e (tick-waited (set_at sets i) (state_at base i) seconds (lasting.each i l)))

      pub has-later : (i : ℕ) → i < 8 → has on i ≡ is_on (state_at later i).mode
      has-later i l = go (has on i) refl
        where
          go : (b : Bool) → has on i ≡ b → has on i ≡ is_on (state_at later i).mode
          go true e = on-has i l ∙ sym (ap (λ (s : SetState). is_on s.mode) (later-on i l e))
          go false e = on-has i l ∙ sym (ap (λ (s : SetState). is_on s.mode) (later-waited i l e) ∙ on-stays (state_at base i).mode (seconds + 1))

      pub steady-on : on ≡ on_mask later
      unfolding on_mask
      steady-on = is-on ∙ mask-same (λ i. is_on (state_at base i).mode) (λ i. is_on (state_at later i).mode) 8 (λ i l. sym (on-has i l) ∙ has-later i l)

      module _ (diesel : ℕ) where
        abbrev added' : List Added
        added' = added_after sets on diesel added

        added-is : (i : ℕ) → i < 8 → added_to added' i ≡ added_at sets on diesel added i
        unfolding added_after
        added-is i l = tab-at (added_at sets on diesel added) 8 i (record { energy = 0; fuel = 0 }) l

        more-at : (i : ℕ) → i < 8 → (b : Bool) → has on i ≡ b → counted (set_at sets i) (state_at later i) (share sets on diesel i) ≡ steady_at base on (seconds + 1) added' i
        unfolding steady_at added_at
        more-at i l true e =
            rw (later-on i l e, added-is i l, e)
            (counts-run (set_at sets i) (state_at base i) seconds (added_to added i) (share sets on diesel i) (sym (on-has i l) ∙ e))
        more-at i l false e =
            rw (later-waited i l e, e)
            (counts-idle (set_at sets i) (waited (state_at base i) (seconds + 1)) (share sets on diesel i) (on-stays (state_at base i).mode (seconds + 1) ∙ sym (on-has i l) ∙ e))

        pub steady-counted : since_steady base on (seconds + 1) added' ≡ counted_all sets later on diesel
        unfolding counted_all since_steady
        steady-counted =
            tab-same (steady_at base on (seconds + 1) added') (λ i. counted (set_at sets i) (state_at later i) (share sets on diesel i)) 8
            (λ i l. sym (more-at i l (has on i) refl))
