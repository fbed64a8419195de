-- Where steady seconds begin, the states are the sets' own; where they end, what was added to them fits. Assumes nothing.
use Prim.Native.Nat.{ℕ, zero, suc, ◌+◌, ◌≤◌, ◌<◌}
use mathlib.Core.Path.{◌≡◌, refl, sym, ◌∙◌}
use mathlib.Core.Bool.{Bool, true, false}
use mathlib.Core.List.{List}
use native.Mathlib.Omega.{arith}
use native.Mathlib.Numerals.{add-one}
use lib.ListN.{length, get_or}
use lib.Seq.{set-get_or}
use Rattle.rules.specs.declared.station.GenSet.{GenSet}
use Rattle.rules.specs.declared.station.Station.{Station}
use Rattle.rules.specs.declared.run.Mode.{Mode}
use Rattle.rules.specs.declared.run.Mode.TheVariants.{Off, Warming, On, Cooling, Service}
use Rattle.rules.specs.declared.run.SetState.{SetState}
use Rattle.rules.specs.Numbers.{has}
use Rattle.rules.specs.StationRecord.{set_at, some_file_gives}
use Rattle.rules.specs.Modes.{fresh, state_at, on_mask}
use Rattle.rules.specs.Commands.{command_from, command, every_on, commanded_all}
use Rattle.rules.specs.RunRecord.{most_seconds, possible}
use Rattle.rules.proofs.Tests.{choice}
use Rattle.rules.proofs.Tables.{tab-at}
use Rattle.modes.proofs.Filled.{Filling, filling-start, filling-more, filling-whole}
use Rattle.moments.specs.declared.parts.Moment.{Moment}
use Rattle.moments.specs.Parts.{run_of}
use Rattle.steady.specs.declared.steady_counts.Added.{Added}
use Rattle.steady.specs.Steady.{added_to, ran_for, steady_at, since_steady}
use Rattle.set_moves.specs.Sized.{Small}
use Rattle.steady.proofs.EventLaws.{none-waited}
use Rattle.steady.proofs.SteadyLaws.{tab-same, steady-at}
use Rattle.steps.proofs.Ready.{small_at}

-- ---- the beginning

-- eight states are the table of their places
own-places : (base : List SetState) (n : ℕ) → length base ≡ 8 → n ≤ 8 → Filling (λ i. state_at base i) base 8 n base
unfolding state_at
own-places base zero size l = filling-start _ _ 8 size
own-places base (suc n) size l =
    let before = own-places base n size (omega arith) in
    rw (set-get_or, add-one n) at (filling-more (λ i. get_or base i (fresh Off)) base 8 n base before (omega arith) (get_or base n (fresh Off)) refl)

pub none-ran : (base : List SetState) (on : ℕ) (added : List Added) → length base ≡ 8 → ((i : ℕ) → i < 8 → added_to added i ≡ record { energy = 0; fuel = 0 }) → since_steady base on 0 added ≡ base
unfolding since_steady steady_at
none-ran base on added size e =
    tab-same _ (λ i. state_at base i) 8 (λ i l. choice (λ (s : SetState). s ≡ state_at base i) (has on i) _ _ (λ h. none i l) (λ h. none-waited (state_at base i)))
    ∙ sym (filling-whole (λ i. state_at base i) base 8 8 base (own-places base 8 size (omega arith)) (omega arith))
  where
    none : (i : ℕ) → i < 8 → ran_for (state_at base i) 0 (added_to added i) ≡ state_at base i
    none i l =
        let s : SetState = state_at base i in
        let a : s.run + 0 ≡ s.run = omega arith in
        let b : s.clock + 0 ≡ s.clock = omega arith in
        let c : s.energy + 0 ≡ s.energy = omega arith in
        let d : s.fuel + 0 ≡ s.fuel = omega arith in
        rw (e i l, a, b, c, d)

-- ---- the end

command-small : (g : GenSet) (s : SetState) (called release : Bool) (m : Mode) → Small (command_from g s called release m) → Small s
unfolding command_from
command-small g s true release Off h = record { run-most = h.run-most; clock-most = h.clock-most; starts-most = omega (arith, h.starts-most); stops-most = h.stops-most; energy-most = h.energy-most; fuel-most = h.fuel-most }
command-small g s false release Off h = h
command-small g s true release (Warming n) h = h
command-small g s false release (Warming n) h = record { run-most = h.run-most; clock-most = h.clock-most; starts-most = h.starts-most; stops-most = omega (arith, h.stops-most); energy-most = h.energy-most; fuel-most = h.fuel-most }
command-small g s true release On h = h
command-small g s false true On h = record { run-most = h.run-most; clock-most = h.clock-most; starts-most = h.starts-most; stops-most = omega (arith, h.stops-most); energy-most = h.energy-most; fuel-most = h.fuel-most }
command-small g s false false On h = h
command-small g s called release (Cooling n) h = h
command-small g s called release (Service n) h = h

module _ (st : Station) (given : some_file_gives st ≡ true) (base : List SetState) (on : ℕ) (is-on : on ≡ on_mask base)
    (ran : ℕ) (added : List Added) (moment : Moment) (decided : List ℕ) (mask : ℕ)
    (p : possible st (run_of moment (commanded_all st.sets (since_steady base on ran added) mask) decided) ≡ true) where
  abbrev now : List SetState
  now = since_steady base on ran added

  commanded-at : (i : ℕ) → i < 8 → state_at (commanded_all st.sets now mask) i ≡ command_from (set_at st.sets i) (state_at now i) (has mask i) (every_on now mask) (state_at now i).mode
  unfolding state_at commanded_all command
  commanded-at i l = tab-at (λ j. command_from (set_at st.sets j) (get_or now j (fresh Off)) (has mask j) (every_on now mask) (get_or now j (fresh Off)).mode) 8 i (fresh Off) l

  small-state : (i : ℕ) → i < 8 → Small (state_at now i)
  small-state i l =
      command-small (set_at st.sets i) (state_at now i) (has mask i) (every_on now mask) (state_at now i).mode
      (rw (commanded-at i l) at (small_at st given (run_of moment (commanded_all st.sets now mask) decided) p i l))

  pub small-made : (i : ℕ) → i < 8 → Small (steady_at base on ran added i)
  small-made i l = rw (steady-at st.sets base on is-on ran added i l) at (small-state i l)

  pub switches-made : (i : ℕ) → i < 8 → ((state_at now i).starts ≤ most_seconds) × ((state_at now i).stops ≤ most_seconds)
  switches-made i l = ((small-state i l).starts-most, (small-state i l).stops-most)
