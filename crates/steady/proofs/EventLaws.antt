-- One set while its mode lasts: a tick counts it down and changes nothing else, what is asked of a mode is not moved by its count, and
-- a command that leaves it as it is at the start does so after any of the seconds. Assumes nothing.
use Prim.Native.Nat.{ℕ, ◌+◌, ◌-◌, ◌≤◌, ◌<◌}
use mathlib.Core.Path.{◌≡◌, refl, sym, ap, ◌∙◌}
use mathlib.Core.Bool.{Bool, true, false}
use mathlib.Core.List.{List}
use native.Mathlib.Omega.{arith}
use borrow.Author.Tests.{lt-leb}
use Rattle.rules.specs.declared.station.GenSet.{GenSet}
use Rattle.rules.specs.declared.run.Mode.{Mode}
use Rattle.rules.specs.declared.run.Mode.TheVariants.{Off, Warming, On, Cooling, Service}
use Rattle.rules.specs.declared.run.SetState.{SetState}
use Rattle.rules.specs.Modes.{is_on, in_service, with_mode, tick_from, tick}
use Rattle.rules.specs.Commands.{command_from}
use Rattle.rules.proofs.Tests.{never}
use Rattle.steady.specs.NextEvent.{longest, lasts, counted_down, waited, NoOwnEvent, NoEvent, unmoved}

-- ---- what a count does not move

pub on-stays : (m : Mode) (k : ℕ) → is_on (counted_down m k) ≡ is_on m
unfolding counted_down
on-stays Off k = refl
on-stays (Warming n) k = refl
on-stays On k = refl
on-stays (Cooling n) k = refl
on-stays (Service n) k = refl

pub service-stays : (m : Mode) (k : ℕ) → in_service (counted_down m k) ≡ in_service m
unfolding counted_down
service-stays Off k = refl
service-stays (Warming n) k = refl
service-stays On k = refl
service-stays (Cooling n) k = refl
service-stays (Service n) k = refl

unmoved-stays : (m : Mode) (k : ℕ) (called release : Bool) → unmoved (counted_down m k) called release ≡ unmoved m called release
unfolding counted_down unmoved
unmoved-stays Off k called release = refl
unmoved-stays (Warming n) k called release = refl
unmoved-stays On k called release = refl
unmoved-stays (Cooling n) k called release = refl
unmoved-stays (Service n) k called release = refl

-- a set On has no count
pub on-uncounted : (m : Mode) (k : ℕ) → is_on m ≡ true → m ≡ counted_down m k
unfolding counted_down
on-uncounted Off k h = never h
on-uncounted (Warming n) k h = never h
on-uncounted On k h = refl
on-uncounted (Cooling n) k h = never h
on-uncounted (Service n) k h = never h

-- ---- no seconds, and fewer

none-counted : (m : Mode) → counted_down m 0 ≡ m
unfolding counted_down
none-counted Off = refl
none-counted (Warming n) = ap Warming (let e : n - 0 ≡ n = omega arith in e)
none-counted On = refl
none-counted (Cooling n) = ap Cooling (let e : n - 0 ≡ n = omega arith in e)
none-counted (Service n) = ap Service (let e : n - 0 ≡ n = omega arith in e)

pub none-waited : (s : SetState) → waited s 0 ≡ s
none-waited s = ap (λ (m : Mode). with_mode s m s.clock) (none-counted s.mode)

pub fewer-lasts : (g : GenSet) (s : SetState) (most seconds : ℕ) → NoOwnEvent g s most → seconds ≤ most → NoOwnEvent g s seconds
fewer-lasts g s most seconds h l =
    record { most = omega (arith, h.most); mode-lasts = omega (arith, h.mode-lasts); not-due = λ on d. let e = h.not-due on d in omega arith }

pub fewer : (sets : List GenSet) (states : List SetState) (most seconds : ℕ) → NoEvent sets states most → seconds ≤ most → NoEvent sets states seconds
fewer sets states most seconds h l = record { each = λ i k. fewer-lasts _ _ most seconds (h.each i k) l }

-- no event comes at once
pub none-at-once : (sets : List GenSet) (states : List SetState) → NoEvent sets states 0
none-at-once sets states = record { each = λ i l. record { most = omega arith; mode-lasts = omega arith; not-due = λ on d. omega arith } }

-- ---- the tick

-- a set On does not tick
pub tick-on : (g : GenSet) (s : SetState) (m : Mode) → is_on m ≡ true → tick_from g s m ≡ s
unfolding tick_from
tick-on g s Off h = never h
tick-on g s (Warming n) h = never h
tick-on g s On h = refl
tick-on g s (Cooling n) h = never h
tick-on g s (Service n) h = never h

tick-counts : (g : GenSet) (s : SetState) (m : Mode) (k : ℕ) → k + 1 ≤ lasts m
    → tick_from g (with_mode s (counted_down m k) s.clock) (counted_down m k) ≡ with_mode s (counted_down m (k + 1)) s.clock
unfolding tick_from lasts counted_down
tick-counts g s Off k h = refl
tick-counts g s (Warming n) k h = let e : n - k - 1 ≡ n - (k + 1) = omega arith in rw (lt-leb (n - k) 1 (omega arith), e)
tick-counts g s On k h = refl
tick-counts g s (Cooling n) k h = let e : n - k - 1 ≡ n - (k + 1) = omega arith in rw (lt-leb (n - k) 1 (omega arith), e)
tick-counts g s (Service n) k h = let e : n - k - 1 ≡ n - (k + 1) = omega arith in rw (lt-leb (n - k) 1 (omega arith), e)

pub tick-waited : (g : GenSet) (s : SetState) (k : ℕ) → NoOwnEvent g s (k + 1) → tick g (waited s k) ≡ waited s (k + 1)
unfolding tick
tick-waited g s k h = tick-counts g s s.mode k h.mode-lasts

-- ---- the command

command-leaves : (g : GenSet) (s : SetState) (called release : Bool) (m : Mode) → unmoved m called release ≡ true → command_from g s called release m ≡ s
unfolding command_from unmoved
command-leaves g s true release Off h = never h
command-leaves g s false release Off h = refl
command-leaves g s true release (Warming n) h = refl
command-leaves g s false release (Warming n) h = never h
command-leaves g s true release On h = refl
command-leaves g s false true On h = never h
command-leaves g s false false On h = refl
command-leaves g s called release (Cooling n) h = refl
command-leaves g s called release (Service n) h = refl

pub command-stays : (g : GenSet) (s : SetState) (called release : Bool) (m : Mode) (k : ℕ) → s.mode ≡ counted_down m k → unmoved m called release ≡ true
    → command_from g s called release s.mode ≡ s
command-stays g s called release m k e h =
    command-leaves g s called release s.mode (ap (λ (z : Mode). unmoved z called release) e ∙ unmoved-stays m k called release ∙ h)

-- ---- for how long a set's mode lasts, by the mode

pub idle-lasts : (g : GenSet) (s : SetState) (m : Mode) (seconds : ℕ) → s.mode ≡ m → is_on m ≡ false → seconds ≤ longest → seconds ≤ lasts m → NoOwnEvent g s seconds
idle-lasts g s m seconds e off h k =
    record { most = h; mode-lasts = rw e k; not-due = λ on d. never (sym (ap is_on e ∙ off) ∙ on) }

pub on-lasts : (g : GenSet) (s : SetState) (seconds : ℕ) → s.mode ≡ On → seconds ≤ longest → (s.clock < g.interval → s.clock + seconds < g.interval) → NoOwnEvent g s seconds
unfolding lasts
on-lasts g s seconds e h k = record { most = h; mode-lasts = rw e h; not-due = λ on d. k d }
