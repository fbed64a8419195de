-- The turns that are no seconds: a phase's line, the rest of the file that is passed by, and the end. Assumes nothing.
use Rattle.std.specs.Prelude.{if◌then◌else◌}
use Prim.Native.Nat.{ℕ, zero, suc, ◌+◌, ◌-◌, ◌≤◌, ◌<◌, min}
use mathlib.Core.Path.{◌≡◌, refl, sym, ap, ◌∙◌, subst}
use mathlib.Core.Logic.{◌⊎◌, inl, inr}
use mathlib.Core.Bool.{Bool, true, false}
use mathlib.Core.List.{List, [], ◌∷◌, ◌++◌, append-nil, append_assoc}
use native.Mathlib.Omega.{arith}
use native.Mathlib.Nat.{not-suc-le-zero}
use lib.Dec.{leb, ltb}
use lib.ListN.{length, take, drop, get_or, length-take, drop_of_length-le}
use borrow.Author.Tests.{leb-true, leb-false, lt-ltb}
use Rattle.rules.specs.declared.answers.Refusal.{Refusal}
use Rattle.rules.specs.declared.run.Inputs.{Inputs}
use Rattle.rules.specs.declared.run.SetState.{SetState}
use Rattle.rules.specs.declared.run.Mode.TheVariants.{Off}
use Rattle.rules.specs.Modes.{fresh, state_at}
use Rattle.rules.specs.Row.{set_lines}
use Rattle.rules.proofs.Tests.{never}
use Rattle.rows.specs.SetLine.{set_line}
use Rattle.rows.proofs.SetLine.{set-lines-step}
use Rattle.run_phases.specs.declared.state.Phase.{Phase}
use Rattle.run_phases.specs.declared.state.Simulation.{Simulation}
use Rattle.run_phases.specs.declared.state.Turn.{Turn}
use Rattle.run_phases.specs.declared.state.Wants.{Wants}
use Rattle.run_phases.specs.Phases.{phase_after}
use Rattle.run_texts.specs.Rows.{set_texts}
use Rattle.run_texts.specs.Text.{text_of, to_print, line_of, set_line_at, with_phase}
use Rattle.run_texts.specs.Coming.{ComesIn, Comes, rank, weight, finished, is_before_sets}
use Rattle.simulation.specs.Turns.{Moved, LineBy, LineMoved, with_line, waiting_for, put_at}
use Rattle.simulation.proofs.TurnLaws.{put_front, put_rest, put-size, quiet}

-- in a phase after the sets' heading nothing is asked
late : {A : Type 0} {p q : Phase} → p ≡ q → is_before_sets q ≡ false → is_before_sets p ≡ true → A
late e f b = never (sym f ∙ sym (ap is_before_sets e) ∙ b)

-- ---- a line, and then the phase after it

module _ (t : Turn) (chunk : List ℕ) (ended : Bool) (out : List ℕ) (at_in : t.next ≤ length chunk) (out-in : t.written ≤ length out) where
  abbrev s : Simulation
  s = t.simulation

  abbrev next : Simulation
  next = with_phase s (phase_after s.phase)

  abbrev line : List ℕ
  line = line_of s.phase s.course.run.sets

  pub room-turn : length out - t.written < 256 → Moved t chunk ended out (waiting_for t Wants.Room) out
  room-turn h = quiet t chunk ended out s t.next Wants.Room refl (λ xs l. refl) (λ rest k zs l. l) at_in (omega arith) out-in (omega arith) (λ n b. b) (λ roomy. omega (arith, h, roomy), refl)

  module _ (text-is : (xs : List Inputs) → to_print s xs ≡ line ++ to_print next xs) (comes : (rest : List ℕ) (xs : List Inputs) → Comes s rest xs → Comes next rest xs)
      (lighter : rank (phase_after s.phase) < rank s.phase) (early : ended ≡ false → is_before_sets s.phase ≡ true → is_before_sets (phase_after s.phase) ≡ true) where
    with-line : 256 ≤ length out - t.written → t.written + length line ≤ length out → Moved t chunk ended out (with_line t) (put_at out t.written line)
    with-line roomy fits =
        let w : weight next < weight s = omega (arith, lighter) in
        record {
          worked = [];
          left_is = omega arith;
          text = λ xs l. ap (λ (x : List ℕ). take t.written out ++ x) (text-is xs) ∙ sym (append_assoc (take t.written out) line (to_print next xs)) ∙ ap (λ (x : List ℕ). x ++ to_print next xs) (sym (put_front out line t.written fits));
          inputs = λ rest h xs c. record { others = xs; are = refl; come = comes (drop t.next chunk ++ rest) xs c };
          within = at_in;
          onward = omega arith;
          grows = omega arith;
          fits = omega (arith, put-size out line t.written fits);
          size = put-size out line t.written fits;
          kept = put_rest out line t.written fits;
          less = omega (arith, w);
          small = λ h. absurd (omega (arith, h, roomy));
          early = early;
          wants = w;
        }

    by-room : (b : Bool) → leb 256 (length out - t.written) ≡ b → (r : Turn) (out' : List ℕ) → LineBy b t out r out' → Moved t chunk ended out r out'
    by-room true e r out' m = rw (m.0, m.1) (with-line (leb-true 256 (length out - t.written) e) m.2)
    by-room false e r out' m = rw (m.0, m.1) (room-turn (leb-false 256 (length out - t.written) e))

    line-turned : (r : Turn) (out' : List ℕ) → LineMoved t out r out' → Moved t chunk ended out r out'
    line-turned r out' m = by-room (leb 256 (length out - t.written)) refl r out' m

  -- ---- by the phase

  refusal-turn : (refusal : Refusal) → s.phase ≡ Phase.Refusal refusal → (r : Turn) (out' : List ℕ) → LineMoved t out r out' → Moved t chunk ended out r out'
  unfolding text_of line_of
  refusal-turn refusal e =
      line-turned
      (λ xs. rw e (sym (append-nil _)))
      (λ rest xs c. subst (λ (p : Phase). ComesIn (phase_after p) (with_phase s (phase_after p)) rest xs) (sym e) (subst (λ (p : Phase). ComesIn p s rest xs) e c))
      (let a = ap rank e in let b = ap (λ (p : Phase). rank (phase_after p)) e in omega (arith, a, b))
      (λ n b. late e refl b)

  heading-turn : s.phase ≡ Phase.Heading → (r : Turn) (out' : List ℕ) → LineMoved t out r out' → Moved t chunk ended out r out'
  unfolding text_of line_of
  heading-turn e =
      line-turned
      (λ xs. rw e)
      (λ rest xs c. subst (λ (p : Phase). ComesIn (phase_after p) (with_phase s (phase_after p)) rest xs) (sym e) (subst (λ (p : Phase). ComesIn p s rest xs) e c))
      (let a = ap rank e in let b = ap (λ (p : Phase). rank (phase_after p)) e in omega (arith, a, b))
      (λ n b. ap (λ (p : Phase). is_before_sets (phase_after p)) e)

  -- what a run begins with
  pub first-turn : ((refusal : Refusal) × (s.phase ≡ Phase.Refusal refusal)) ⊎ (s.phase ≡ Phase.Heading) → (r : Turn) (out' : List ℕ) → LineMoved t out r out' → Moved t chunk ended out r out'
  first-turn (inl (refusal, e)) = refusal-turn refusal e
  first-turn (inr e) = heading-turn e

  pub set-heading-turn : s.phase ≡ Phase.SetHeading → ended ≡ true → (r : Turn) (out' : List ℕ) → LineMoved t out r out' → Moved t chunk ended out r out'
  unfolding text_of line_of set_texts
  set-heading-turn e over =
      line-turned
      (λ xs. rw e)
      (λ rest xs c. subst (λ (p : Phase). ComesIn (phase_after p) (with_phase s (phase_after p)) rest xs) (sym e) (subst (λ (p : Phase). ComesIn p s rest xs) e c))
      (let a = ap rank e in let b = ap (λ (p : Phase). rank (phase_after p)) e in omega (arith, a, b))
      (λ n b. never (sym n ∙ over))

  pub passing-turn : s.phase ≡ Phase.SetHeading → ended ≡ false → Moved t chunk ended out (record { simulation = s; next = length chunk; written = t.written; wants = Wants.Input }) out
  passing-turn e n =
      quiet t chunk ended out s (length chunk) Wants.Input refl (λ xs l. refl)
      (λ rest h xs c. subst (λ (p : Phase). ComesIn p s (drop (length chunk) chunk ++ rest) xs) (sym e) (subst (λ (p : Phase). ComesIn p s (drop t.next chunk ++ rest) xs) e c))
      (omega arith) at_in out-in (omega arith) (λ n b. b) (refl, n)

  finished-turn : finished s.phase ≡ true → Moved t chunk ended out (waiting_for t Wants.Nothing) out
  finished-turn e = quiet t chunk ended out s t.next Wants.Nothing refl (λ xs l. refl) (λ rest h xs c. c) at_in (omega arith) out-in (omega arith) (λ n b. b) e

  -- what it ends with
  pub last-turn : (s.phase ≡ Phase.Over) ⊎ (s.phase ≡ Phase.Broken) → Moved t chunk ended out (waiting_for t Wants.Nothing) out
  last-turn (inl e) = finished-turn (ap finished e)
  last-turn (inr e) = finished-turn (ap finished e)

  -- ---- the sets

  -- a list from a place on: what stands there, and what is after it
  from_place : (l : List SetState) (n i : ℕ) → i < n → i < length l → drop i (take n l) ≡ get_or l i (fresh Off) ∷ drop (suc i) (take n l)
  from_place [] n i h k = absurd (not-suc-le-zero k)
  from_place (x ∷ l) zero i h k = absurd (not-suc-le-zero h)
  from_place (x ∷ l) (suc n) zero h k = refl
  from_place (x ∷ l) (suc n) (suc i) h k = from_place l n i (omega arith) (omega arith)

  module _ (place : ℕ) (e : s.phase ≡ Phase.SetLine place) (sets-length : length s.course.run.sets ≡ 8) where
    pub set-line-turn : place < 8 → place < s.course.station.setcount → (r : Turn) (out' : List ℕ) → LineMoved t out r out' → Moved t chunk ended out r out'
    unfolding text_of line_of set_line_at state_at
    set-line-turn small exists =
        line-turned
        (λ xs. rw e one_more)
        (λ rest xs c. subst (λ (p : Phase). ComesIn (phase_after p) (with_phase s (phase_after p)) rest xs) (sym e) (subst (λ (p : Phase). ComesIn p s rest xs) e c))
        (let a = ap rank e in let b = ap (λ (p : Phase). rank (phase_after p)) e in omega (arith, a, b))
        (λ n b. late e refl b)
      where
        sets : List SetState
        sets = s.course.run.sets

        one_more : set_lines place (drop place (take s.course.station.setcount s.course.run.sets))
            ≡ (if ltb place 8 then set_line (suc place) (get_or s.course.run.sets place (fresh Off)) else []) ++ set_lines (min (suc place) 8) (drop (min (suc place) 8) (take s.course.station.setcount s.course.run.sets))
        one_more =
            let m : min (suc place) 8 ≡ suc place = omega arith in
            ap (set_lines place) (from_place s.course.run.sets s.course.station.setcount place exists (omega (arith, sets-length)))
            ∙ set-lines-step place (get_or s.course.run.sets place (fresh Off)) (drop (suc place) (take s.course.station.setcount s.course.run.sets))
            ∙ rw (lt-ltb place 8 small, m)

    pub sets-over-turn : length (take s.course.station.setcount s.course.run.sets) ≤ place → Moved t chunk ended out (record { simulation = with_phase s Phase.Over; next = t.next; written = t.written; wants = Wants.Further }) out
    unfolding text_of set_lines
    sets-over-turn past =
        let lighter : weight (with_phase s Phase.Over) < weight s = let a = ap rank e in omega (arith, a) in
        quiet t chunk ended out (with_phase s Phase.Over) t.next Wants.Further refl
        (λ xs l. rw (e, drop_of_length-le (take s.course.station.setcount s.course.run.sets) past))
        (λ rest h xs c. subst (λ (p : Phase). ComesIn p s (drop t.next chunk ++ rest) xs) e c)
        at_in (omega arith) out-in (omega (arith, lighter)) (λ n b. late e refl b) lighter

    pub few-sets : min s.course.station.setcount 8 ≤ place → length (take s.course.station.setcount s.course.run.sets) ≤ place
    few-sets past = omega (arith, length-take s.course.station.setcount s.course.run.sets, sets-length)
