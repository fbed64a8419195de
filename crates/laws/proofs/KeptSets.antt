-- A possible state of a set stays possible through a second: modes tick, counts, commands. Assumes nothing.
use Rattle.std.specs.Prelude.{if◌then◌else◌}
use Prim.Native.Nat.{ℕ, ◌+◌, ◌-◌, ◌*◌, ◌≤◌}
use mathlib.Core.Path.{◌≡◌, refl, ap, ◌∙◌}
use mathlib.Core.Bool.{Bool, true, false}
use mathlib.Core.List.{[], ◌∷◌}
use native.Mathlib.Omega.{arith}
use native.Mathlib.Nat.{mul-add, mul-one}
use lib.Dec.{leb, ltb, eqb}
use borrow.Author.Tests.{leb-true, leb-false, le-leb, ltb-true, eqb-true}
use Rattle.rules.specs.declared.station.GenSet.{GenSet}
use Rattle.rules.specs.declared.run.Mode.{Mode}
use Rattle.rules.specs.declared.run.Mode.TheVariants.{Off, Warming, On, Cooling, Service}
use Rattle.rules.specs.declared.run.SetState.{SetState}
use Rattle.rules.specs.Numbers.{within, all_zero}
use Rattle.rules.specs.StationRecord.{set_right, service_right}
use Rattle.rules.specs.Fuel.{fuel_rate}
use Rattle.rules.specs.Modes.{is_on, is_off, due, with_mode, tick_from, tick}
use Rattle.rules.specs.Commands.{counted, started, stopped, command_from, command}
use Rattle.rules.specs.RunRecord.{mode_possible, count_rules, counts_possible, state_unused, state_possible}
use Rattle.rules.proofs.Tests.{never, both, and-true, all-at, within-fact, fact-within}
use Rattle.rules.proofs.StationFacts.{warmup-range, cooldown-range, service-right}

-- ---- modes

-- a larger count falls by 1
falls : (n most : ℕ) → within 1 most n ≡ true → leb n 1 ≡ false → within 1 most (n - 1) ≡ true
falls n most h e =
    let a = within-fact 1 most n h in
    let b = leb-false n 1 e in
    fact-within 1 most (n - 1) (omega arith) (omega arith)

-- "A mode is entered with its full delay."
full : (most : ℕ) → 1 ≤ most → within 1 most most ≡ true
full most h = fact-within 1 most most h (omega arith)

-- a set with an interval has a service time
service-some : (interval service : ℕ) → service_right interval service ≡ true → ltb 0 interval ≡ true → 1 ≤ service
service-some interval service h k = go (eqb interval 0) refl h
  where
    go : (b : Bool) → eqb interval 0 ≡ b → (if b then eqb service 0 else within 1 2_592_000 service) ≡ true → 1 ≤ service
    go true e r = absurd (let z = ltb-true 0 interval k in let y : interval ≡ 0 = eqb-true interval 0 e in omega arith)
    go false e r = (within-fact 1 2_592_000 service r).0

mode-choice : (g : GenSet) (b : Bool) (x y : Mode) → (b ≡ true → mode_possible g x ≡ true) → (b ≡ false → mode_possible g y ≡ true) → mode_possible g (if b then x else y) ≡ true
mode-choice g true x y h k = h refl
mode-choice g false x y h k = k refl

state-choice : (P : SetState → Type 0) (b : Bool) (x y : SetState) → (b ≡ true → P x) → (b ≡ false → P y) → P (if b then x else y)
state-choice P true x y h k = h refl
state-choice P false x y h k = k refl

module _ (g : GenSet) (numbers : set_right g ≡ true) where
  abbrev InMode : SetState → Type 0
  InMode s = mode_possible g s.mode ≡ true

  tick-mode : (s : SetState) (m : Mode) → s.mode ≡ m → mode_possible g m ≡ true → InMode (tick_from g s m)
  unfolding tick_from due
  tick-mode s Off e h = ap (mode_possible g) e ∙ h
  tick-mode s (Warming n) e h = mode-choice g (leb n 1) On (Warming (n - 1)) (λ t. refl) (λ f. falls n g.warmup h f)
  tick-mode s On e h = ap (mode_possible g) e ∙ h
  tick-mode s (Cooling n) e h =
      mode-choice g (leb n 1) (if due g s then Service g.service else Off) (Cooling (n - 1))
      (λ t. mode-choice g (due g s) (Service g.service) Off
      (λ u. let k = (both (ltb 0 g.interval) (leb g.interval s.clock) u).0 in and-true (full g.service (service-some g.interval g.service (service-right g numbers) k)) k)
      (λ u. refl))
      (λ f. falls n g.cooldown h f)
  tick-mode s (Service n) e h =
      let t = both (within 1 g.service n) (ltb 0 g.interval) h in
      state-choice InMode (leb n 1) (with_mode s Off 0) (with_mode s (Service (n - 1)) s.clock) (λ u. refl) (λ f. and-true (falls n g.service t.0 f) t.1)

  count-mode : (s : SetState) (power : ℕ) → InMode s → InMode (counted g s power)
  unfolding counted
  count-mode s power h = state-choice InMode (is_on s.mode) _ s (λ t. h) (λ f. h)

  command-mode : (s : SetState) (called every_on : Bool) (m : Mode) → InMode s → InMode (command_from g s called every_on m)
  unfolding command_from
  command-mode s called every_on Off h = state-choice InMode called (started g s) s (λ t. full g.warmup (warmup-range g numbers).0) (λ f. h)
  command-mode s called every_on (Warming n) h = state-choice InMode called s (stopped s Off) (λ t. h) (λ f. refl)
  command-mode s called every_on On h =
      state-choice InMode called s (if every_on then stopped s (Cooling g.cooldown) else s) (λ t. h)
      (λ f. state-choice InMode every_on (stopped s (Cooling g.cooldown)) s (λ t. full g.cooldown (cooldown-range g numbers).0) (λ u. h))
  command-mode s called every_on (Cooling n) h = h
  command-mode s called every_on (Service n) h = h

-- ---- counts, of which starts and stops have a bound of their own until the commands are given

pub record Within (g : GenSet) (s : SetState) (done switched : ℕ) : Type 0 where
  pub run-most : s.run ≤ done
  pub clock-most : s.clock ≤ done
  pub starts-most : s.starts ≤ switched
  pub stops-most : s.stops ≤ switched
  pub energy-most : s.energy ≤ g.rating * done
  pub fuel-most : s.fuel ≤ 15_000_000_000 * done

module _ (g : GenSet) where
  pub from-rules : (s : SetState) (done : ℕ) → counts_possible g s done ≡ true → Within g s done done
  from-rules s done h = record {
    run-most = leb-true _ _ (all-at (count_rules g s done) 0 h);
    clock-most = leb-true _ _ (all-at (count_rules g s done) 1 h);
    starts-most = leb-true _ _ (all-at (count_rules g s done) 2 h);
    stops-most = leb-true _ _ (all-at (count_rules g s done) 3 h);
    energy-most = leb-true _ _ (all-at (count_rules g s done) 4 h);
    fuel-most = leb-true _ _ (all-at (count_rules g s done) 5 h);
  }

  to-rules : (s : SetState) (done : ℕ) → Within g s done done → counts_possible g s done ≡ true
  to-rules s done c =
      and-true
      (and-true
      (and-true
      (and-true (and-true (le-leb _ _ c.run-most) (le-leb _ _ c.clock-most)) (le-leb _ _ c.starts-most))
      (le-leb _ _ c.stops-most))
      (le-leb _ _ c.energy-most))
      (le-leb _ _ c.fuel-most)

  -- the same counts, in another mode and with a clock that is not later
  same-counts : (s : SetState) (m : Mode) (clock done switched : ℕ) → clock ≤ done → Within g s done switched → Within g (with_mode s m clock) done switched
  same-counts s m clock done switched h c = record {
    run-most = c.run-most;
    clock-most = h;
    starts-most = c.starts-most;
    stops-most = c.stops-most;
    energy-most = c.energy-most;
    fuel-most = c.fuel-most;
  }

  pub tick-counts : (s : SetState) (m : Mode) (done switched : ℕ) → Within g s done switched → Within g (tick_from g s m) done switched
  unfolding tick_from
  tick-counts s Off done switched c = c
  tick-counts s (Warming n) done switched c = same-counts s _ s.clock done switched c.clock-most c
  tick-counts s On done switched c = c
  tick-counts s (Cooling n) done switched c = same-counts s _ s.clock done switched c.clock-most c
  tick-counts s (Service n) done switched c =
      state-choice (λ r. Within g r done switched) (leb n 1) (with_mode s Off 0) (with_mode s (Service (n - 1)) s.clock)
      (λ t. same-counts s Off 0 done switched (omega arith) c)
      (λ f. same-counts s (Service (n - 1)) s.clock done switched c.clock-most c)

  -- one second more, and what a set On adds
  pub count-counts : (s : SetState) (power done switched : ℕ) → power ≤ g.rating → fuel_rate g power ≤ 15_000_000_000 → Within g s done switched → Within g (counted g s power) (done + 1) switched
  unfolding counted
  count-counts s power done switched p f c =
      let rating : g.rating * (done + 1) ≡ g.rating * done + g.rating = mul-add g.rating done 1 ∙ ap (λ (x : ℕ). g.rating * done + x) (mul-one g.rating) in
      state-choice (λ r. Within g r (done + 1) switched) (is_on s.mode) _ s
      (λ t. record {
        run-most = omega (arith, c.run-most);
        clock-most = omega (arith, c.clock-most);
        starts-most = c.starts-most;
        stops-most = c.stops-most;
        energy-most = omega (arith, c.energy-most);
        fuel-most = omega (arith, c.fuel-most);
      })
      (λ t. record {
        run-most = omega (arith, c.run-most);
        clock-most = omega (arith, c.clock-most);
        starts-most = c.starts-most;
        stops-most = c.stops-most;
        energy-most = omega (arith, c.energy-most);
        fuel-most = omega (arith, c.fuel-most);
      })

  -- a start or a stop more, or neither
  switch-counts : (s r : SetState) (done switched : ℕ) → r.run ≡ s.run → r.clock ≡ s.clock → r.starts ≤ s.starts + 1 → r.stops ≤ s.stops + 1 → r.energy ≡ s.energy → r.fuel ≡ s.fuel
      → Within g s done switched → Within g r done (switched + 1)
  switch-counts s r done switched a b d e f k c = record {
    run-most = rw a c.run-most;
    clock-most = rw b c.clock-most;
    starts-most = omega (arith, d, c.starts-most);
    stops-most = omega (arith, e, c.stops-most);
    energy-most = rw f c.energy-most;
    fuel-most = rw k c.fuel-most;
  }

  module _ (s : SetState) (done switched : ℕ) (c : Within g s done switched) where
    abbrev Kept : SetState → Type 0
    Kept r = Within g r done (switched + 1)

    stays : Kept s
    stays = switch-counts s s done switched refl refl (omega arith) (omega arith) refl refl c

    starts : Kept (started g s)
    starts = switch-counts s (started g s) done switched refl refl (omega arith) (omega arith) refl refl c

    stops : (m : Mode) → Kept (stopped s m)
    stops m = switch-counts s (stopped s m) done switched refl refl (omega arith) (omega arith) refl refl c

    command-counts : (called every_on : Bool) (m : Mode) → Kept (command_from g s called every_on m)
    unfolding command_from
    command-counts called every_on Off = state-choice Kept called (started g s) s (λ t. starts) (λ f. stays)
    command-counts called every_on (Warming n) = state-choice Kept called s (stopped s Off) (λ t. stays) (λ f. stops Off)
    command-counts called every_on On =
        state-choice Kept called s (if every_on then stopped s (Cooling g.cooldown) else s) (λ t. stays)
        (λ f. state-choice Kept every_on (stopped s (Cooling g.cooldown)) s (λ t. stops (Cooling g.cooldown)) (λ u. stays))
    command-counts called every_on (Cooling n) = stays
    command-counts called every_on (Service n) = stays

-- ---- a set that the station has

pub existing-kept : (g : GenSet) (s : SetState) (power done : ℕ) (called every_on : Bool) → set_right g ≡ true → power ≤ g.rating → fuel_rate g power ≤ 15_000_000_000
    → state_possible true g s done ≡ true → state_possible true g (command g (counted g (tick g s) power) called every_on) (done + 1) ≡ true
unfolding state_possible tick command
existing-kept g s power done called every_on numbers p f h =
    let t = both (mode_possible g s.mode) (counts_possible g s done) h in
    let a : SetState = tick_from g s s.mode in
    let b : SetState = counted g a power in
    let r : SetState = command_from g b called every_on b.mode in
    let mode : mode_possible g r.mode ≡ true = command-mode g numbers b called every_on b.mode (count-mode g numbers a power (tick-mode g numbers s s.mode refl t.0)) in
    let counts : Within g r (done + 1) (done + 1) = command-counts g b (done + 1) done (count-counts g a power done done p f (tick-counts g s s.mode done done (from-rules g s done t.1))) called every_on b.mode in
    and-true mode (to-rules g r (done + 1) counts)

-- ---- and one that it has not, which is never called

pub off-only : (m : Mode) → is_off m ≡ true → m ≡ Off
off-only Off h = refl
off-only (Warming n) h = never h
off-only On h = never h
off-only (Cooling n) h = never h
off-only (Service n) h = never h

untouched : (g : GenSet) (s : SetState) (power : ℕ) (every_on : Bool) → s.mode ≡ Off → command g (counted g (tick g s) power) false every_on ≡ s
unfolding command counted tick tick_from command_from
untouched g s power every_on e =
    let a : tick_from g s s.mode ≡ s = ap (tick_from g s) e in
    let b : is_on s.mode ≡ false = ap is_on e in
    rw a (rw b (ap (command_from g s false every_on) e))

pub other-kept : (g : GenSet) (s : SetState) (power done : ℕ) (every_on : Bool)
    → state_possible false g s done ≡ true → state_possible false g (command g (counted g (tick g s) power) false every_on) (done + 1) ≡ true
unfolding state_possible
other-kept g s power done every_on h =
    let zeros : Bool = all_zero (s.run ∷ s.clock ∷ s.starts ∷ s.stops ∷ s.energy ∷ s.fuel ∷ []) in
    ap state_unused (untouched g s power every_on (off-only s.mode (both (is_off s.mode) zeros h).0)) ∙ h
