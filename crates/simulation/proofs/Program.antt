-- THE THEOREMS of calls one after the other: what they hand over, and how many there are. Assumes nothing.
use Prim.Native.Nat.{ℕ, zero, suc, ◌+◌, ◌≤◌, ◌<◌}
use mathlib.Core.Path.{◌≡◌, refl, sym, ap, ◌∙◌, subst}
use mathlib.Core.Bool.{Bool, true, false}
use mathlib.Core.List.{List, [], ◌∷◌, ◌++◌, append-nil, append_assoc}
use native.Mathlib.Omega.{arith}
use lib.ListN.{length, take, drop, length-append, drop_of_length-le}
use Rattle.rules.specs.declared.run.Inputs.{Inputs}
use Rattle.rules.specs.Bytes.{SliceHeld}
use Rattle.rules.specs.Chunks.{joined}
use Rattle.course.proofs.Started.{coming-length}
use Rattle.run_phases.specs.declared.state.Phase.{Phase}
use Rattle.run_phases.specs.declared.state.Simulation.{Simulation}
use Rattle.run_phases.specs.declared.state.Turn.{Turn}
use Rattle.run_phases.specs.declared.state.Wants.{Wants}
use Rattle.run_texts.specs.Text.{text_of, to_print}
use Rattle.run_texts.specs.Coming.{ComesIn, Comes, ComesOn, weight, finished}
use Rattle.simulation.specs.Calls.{Stopped, Called}
use Rattle.simulation.specs.Program.{first, others, is_end, left_at, Calls, Prints, most_calls, SlicesHeld, HeldByTypes, Answered, Whole}
use Rattle.run_texts.proofs.Printed.{Starts}

opposite : {A : Type 0} {b : Bool} → b ≡ true → b ≡ false → A
opposite p q = absurd (let z : ◌≡◌ {A = ℕ} 0 1 = cc (sym p ∙ q) in omega arith)

-- ---- the file

joined-start : (chunks : List (List ℕ)) → left_at 0 chunks ≡ joined chunks
unfolding joined
joined-start [] = refl
joined-start (chunk ∷ chunks) = refl

nothing_left : (chunks : List (List ℕ)) → is_end chunks ≡ true → joined (others chunks) ≡ []
unfolding joined
nothing_left [] e = refl
nothing_left (chunk ∷ chunks) e = absurd (let z : ◌≡◌ {A = ℕ} 0 1 = cc e in omega arith)

more-chunks : (chunks : List (List ℕ)) → is_end chunks ≡ false → length chunks ≡ suc (length (others chunks))
more-chunks [] e = absurd (let z : ◌≡◌ {A = ℕ} 0 1 = cc e in omega arith)
more-chunks (chunk ∷ chunks) e = refl

-- ---- the inputs to come are as many as the seconds that are left

by-phase : (p : Phase) (s : Simulation) (rest : List ℕ) (xs : List Inputs) → ComesIn p s rest xs → length xs ≡ s.course.left
by-phase (Phase.Refusal refusal) s rest xs c = ap length c.1 ∙ sym c.0
by-phase Phase.Heading s rest xs c = coming-length s.course rest xs c
by-phase Phase.Seconds s rest xs c = coming-length s.course rest xs c
by-phase Phase.SetHeading s rest xs c = ap length c.1 ∙ sym c.0
by-phase (Phase.SetLine place) s rest xs c = ap length c.1 ∙ sym c.0
by-phase Phase.Over s rest xs c = ap length c.1 ∙ sym c.0
by-phase Phase.Broken s rest xs c = absurd c

pub comes-length : (s : Simulation) (rest : List ℕ) (xs : List Inputs) → Comes s rest xs → length xs ≡ s.course.left
comes-length s rest xs c = by-phase s.phase s rest xs c

-- ---- what a call hands over

pub over_by : (p : Phase) (s : Simulation) (rest : List ℕ) (xs : List Inputs) → finished p ≡ true → ComesIn p s rest xs → text_of p s.course.station s.course.run xs ≡ []
unfolding text_of
over_by (Phase.Refusal refusal) s rest xs f c = absurd (let z : ◌≡◌ {A = ℕ} 0 1 = cc f in omega arith)
over_by Phase.Heading s rest xs f c = absurd (let z : ◌≡◌ {A = ℕ} 0 1 = cc f in omega arith)
over_by Phase.Seconds s rest xs f c = absurd (let z : ◌≡◌ {A = ℕ} 0 1 = cc f in omega arith)
over_by Phase.SetHeading s rest xs f c = absurd (let z : ◌≡◌ {A = ℕ} 0 1 = cc f in omega arith)
over_by (Phase.SetLine place) s rest xs f c = absurd (let z : ◌≡◌ {A = ℕ} 0 1 = cc f in omega arith)
over_by Phase.Over s rest xs f c = refl
over_by Phase.Broken s rest xs f c = absurd c

-- the text of the inputs to come, as far as it was handed over, and what is later
record Handed (text out : List ℕ) (last : Simulation) : Type 0 where
  later : List ℕ
  is : text ≡ out ++ later
  done : finished last.phase ≡ true → later ≡ []

module _ (s : Simulation) (chunks : List (List ℕ)) (at : ℕ) (lent : List ℕ) (r : Turn) (left : List ℕ) (c : Called s (first chunks) at (is_end chunks) lent r left) (xs : List Inputs) (k : Comes s (left_at at chunks) xs) where
  on : ComesOn c.worked xs r.simulation (left_at r.next chunks)
  on = c.inputs (joined (others chunks)) (nothing_left chunks) xs k

  text-on : to_print s xs ≡ take r.written left ++ to_print r.simulation on.others
  text-on = ap (to_print s) on.are ∙ c.text on.others (comes-length r.simulation (left_at r.next chunks) on.others on.come)

  then-handed : (out : List ℕ) (last : Simulation) → Handed (to_print r.simulation on.others) out last → Handed (to_print s xs) (take r.written left ++ out) last
  then-handed out last h =
      record {
        later = h.later;
        is = text-on ∙ ap (λ (l : List ℕ). take r.written left ++ l) h.is ∙ sym (append_assoc (take r.written left) out h.later);
        done = h.done;
      }

  -- the next chunk comes
  next-comes : r.wants ≡ Wants.Input → Comes r.simulation (left_at 0 (others chunks)) on.others
  next-comes w =
      let z : Stopped Wants.Input s (first chunks) (is_end chunks) lent r = subst (λ (x : Wants). Stopped x s (first chunks) (is_end chunks) lent r) w c.wants in
      let used : drop r.next (first chunks) ≡ [] = let h : length (first chunks) ≤ r.next = omega (arith, z.0) in drop_of_length-le (first chunks) h in
      subst (λ (l : List ℕ). Comes r.simulation l on.others) (ap (λ (l : List ℕ). l ++ joined (others chunks)) used ∙ sym (joined-start (others chunks))) on.come

handed : {s last : Simulation} {at n : ℕ} {chunks : List (List ℕ)} {out : List ℕ} → Calls Called s at chunks n out last → (xs : List Inputs) → Comes s (left_at at chunks) xs → Handed (to_print s xs) out last
handed {s} {at = at} {chunks = chunks} Calls.none xs k = record { later = to_print s xs; is = refl; done = λ f. over_by s.phase s (left_at at chunks) xs f k }
handed {s} {last} {at = at} {chunks = chunks} (Calls.room {later = later} r lent left c roomy w more) xs k =
    then-handed s chunks at lent r left c xs k later last (handed more (on s chunks at lent r left c xs k).others (on s chunks at lent r left c xs k).come)
handed {s} {last} {at = at} {chunks = chunks} (Calls.input {later = later} r lent left c roomy w more) xs k =
    then-handed s chunks at lent r left c xs k later last (handed more (on s chunks at lent r left c xs k).others (next-comes s chunks at lent r left c xs k w))
handed {s} {at = at} {chunks = chunks} (Calls.over r lent left c roomy w) xs k =
    let o = on s chunks at lent r left c xs k in
    record {
      later = to_print r.simulation o.others;
      is = text-on s chunks at lent r left c xs k;
      done = λ f. over_by r.simulation.phase r.simulation (left_at r.next chunks) o.others f o.come;
    }

-- ---- how many calls there are

pub few-calls : {s last : Simulation} {at n : ℕ} {chunks : List (List ℕ)} {out : List ℕ} → Calls Called s at chunks n out last → n ≤ most_calls s chunks
few-calls Calls.none = omega arith
few-calls {s} {at = at} {chunks = chunks} (Calls.room r lent left c roomy w more) =
    let z : Stopped Wants.Room s (first chunks) (is_end chunks) lent r = subst (λ (x : Wants). Stopped x s (first chunks) (is_end chunks) lent r) w c.wants in
    let nearer = z.1 roomy in
    let k = few-calls more in omega (arith, nearer, k)
few-calls {s} {at = at} {chunks = chunks} (Calls.input r lent left c roomy w more) =
    let z : Stopped Wants.Input s (first chunks) (is_end chunks) lent r = subst (λ (x : Wants). Stopped x s (first chunks) (is_end chunks) lent r) w c.wants in
    let k = few-calls more in omega (arith, k, more-chunks chunks z.1, c.less)
few-calls (Calls.over r lent left c roomy w) = omega arith

-- ---- THE THEOREM of a run that starts

pub calls-print : {s last : Simulation} {n : ℕ} {chunks : List (List ℕ)} {out text : List ℕ} → Starts s (joined chunks) text → Calls Called s 0 chunks n out last → Prints text (most_calls s chunks) n out last
calls-print {s} {last} {n} {chunks} {out} {text} b calls =
    let h = handed calls b.inputs (subst (λ (l : List ℕ). Comes s l b.inputs) (sym (joined-start chunks)) b.come) in
    record {
      later = h.later;
      begins = sym b.text-is ∙ h.is;
      all = λ f. sym (append-nil out) ∙ ap (λ (l : List ℕ). out ++ l) (sym (h.done f)) ∙ sym h.is ∙ b.text-is;
      soon = few-calls calls;
    }

-- ---- whatever the second pass reads: what is handed over is how the rows of some inputs begin, and no refusal among them

record Some (s : Simulation) (out : List ℕ) (last : Simulation) : Type 0 where
  worked : List Inputs
  left_is : length worked + last.course.left ≡ s.course.left
  text : (xs : List Inputs) → length xs ≡ last.course.left → to_print s (worked ++ xs) ≡ out ++ to_print last xs

call-some : (s : Simulation) (chunk : List ℕ) (at : ℕ) (ended : Bool) (lent : List ℕ) (r : Turn) (left : List ℕ) → Called s chunk at ended lent r left → (out : List ℕ) (last : Simulation) → Some r.simulation out last → Some s (take r.written left ++ out) last
call-some s chunk at ended lent r left c out last h =
    record {
      worked = c.worked ++ h.worked;
      left_is = (let z = length-append c.worked h.worked in omega (arith, z, c.left_is, h.left_is));
      text = λ xs l.
          ap (to_print s) (append_assoc c.worked h.worked xs)
          ∙ c.text (h.worked ++ xs) (length-append h.worked xs ∙ (let z : length h.worked + length xs ≡ r.simulation.course.left = omega (arith, h.left_is, l) in z))
          ∙ ap (λ (x : List ℕ). take r.written left ++ x) (h.text xs l) ∙ sym (append_assoc (take r.written left) out (to_print last xs));
    }

no-calls : (s : Simulation) → Some s [] s
no-calls s = record { worked = []; left_is = omega arith; text = λ xs l. refl }

some-handed : {s last : Simulation} {at n : ℕ} {chunks : List (List ℕ)} {out : List ℕ} → Calls Called s at chunks n out last → Some s out last
some-handed {s} Calls.none = no-calls s
some-handed {s} {last} {at = at} {chunks = chunks} (Calls.room {later = later} r lent left c roomy w more) = call-some s (first chunks) at (is_end chunks) lent r left c later last (some-handed more)
some-handed {s} {last} {at = at} {chunks = chunks} (Calls.input {later = later} r lent left c roomy w more) = call-some s (first chunks) at (is_end chunks) lent r left c later last (some-handed more)
some-handed {s} {at = at} {chunks = chunks} (Calls.over r lent left c roomy w) =
    subst (λ (l : List ℕ). Some s l r.simulation) (append-nil (take r.written left)) (call-some s (first chunks) at (is_end chunks) lent r left c [] r.simulation (no-calls r.simulation))

-- the inputs, one for each second asked, and the text with them
pub record OfSome (s : Simulation) (out : List ℕ) : Type 0 where
  pub inputs : List Inputs
  pub as_many : length inputs ≡ s.course.left
  pub later : List ℕ
  pub begins : to_print s inputs ≡ out ++ later

pub some-inputs : {s last : Simulation} {at n : ℕ} {chunks : List (List ℕ)} {out : List ℕ} → Calls Called s at chunks n out last → OfSome s out
some-inputs {s} {last} calls =
    let h = some-handed calls in
    record {
      inputs = h.worked ++ dark last.course.left;
      as_many = length-append h.worked (dark last.course.left) ∙ (let z = dark-length last.course.left in let e : length h.worked + length (dark last.course.left) ≡ s.course.left = omega (arith, z, h.left_is) in e);
      later = to_print last (dark last.course.left);
      begins = h.text (dark last.course.left) (dark-length last.course.left);
    }
  where
    dark : ℕ → List Inputs
    dark zero = []
    dark (suc n) = record { load = 0; solar = 0; sheddable = 0 } ∷ dark n

    dark-length : (n : ℕ) → length (dark n) ≡ n
    dark-length zero = refl
    dark-length (suc n) = ap suc (dark-length n)

-- ---- the calls come to an end: where each call that is handed what its types can hold is answered with such, there is such a list up to
-- one that wants nothing, each call lent the buffer that the one before left, for every list of chunks that slices can hold

module _ (One : Simulation → List ℕ → ℕ → Bool → List ℕ → Turn → List ℕ → Type 0) (owes : (s : Simulation) (chunk : List ℕ) (at : ℕ) (ended : Bool) (lent : List ℕ) (r : Turn) (left : List ℕ) → One s chunk at ended lent r left → Called s chunk at ended lent r left)
    (RunHeld : Simulation → Type 0) (answers : (s : Simulation) (chunk : List ℕ) (at : ℕ) (ended : Bool) (lent : List ℕ) → HeldByTypes RunHeld s chunk at lent → Answered One RunHeld s chunk at ended lent) where
  first-held : (chunks : List (List ℕ)) → SlicesHeld chunks → SliceHeld (first chunks)
  first-held [] h = record { few = omega arith; are = tt }
  first-held (chunk ∷ chunks) h = h.0

  others-held : (chunks : List (List ℕ)) → SlicesHeld chunks → SlicesHeld (others chunks)
  others-held [] h = tt
  others-held (chunk ∷ chunks) h = h.1

  -- the next call of the same chunk, and of the next one
  module _ (s : Simulation) (chunk : List ℕ) (at : ℕ) (ended : Bool) (lent : List ℕ) (held : HeldByTypes RunHeld s chunk at lent) (a : Answered One RunHeld s chunk at ended lent) where
    left-held : SliceHeld a.left
    left-held = record { few = omega (arith, a.size, held.lent-held.few); are = a.are }

    held_on : HeldByTypes RunHeld a.turn.simulation chunk a.turn.next a.left
    held_on =
        record {
          run = a.run;
          chunk-held = held.chunk-held;
          place = omega (arith, (owes s chunk at ended lent a.turn a.left a.one).within, held.chunk-held.few);
          lent-held = left-held;
        }

    held_next : (chunk₂ : List ℕ) → SliceHeld chunk₂ → HeldByTypes RunHeld a.turn.simulation chunk₂ 0 a.left
    held_next chunk₂ h = record { run = a.run; chunk-held = h; place = omega arith; lent-held = left-held }

  whole-within : (most : ℕ) (s : Simulation) (at : ℕ) (chunks : List (List ℕ)) (lent : List ℕ) → HeldByTypes RunHeld s (first chunks) at lent → SlicesHeld chunks → 256 ≤ length lent → most_calls s chunks ≤ most → Whole One s at chunks
  whole-within zero s at chunks lent held all roomy h = absurd (omega (arith, h))
  whole-within (suc most) s at chunks lent held all roomy h =
      let a = answers s (first chunks) at (is_end chunks) lent held in
      let room : 256 ≤ length a.left = omega (arith, roomy, a.size) in
      by-wants a.turn a.left a.one a.turn.wants refl
      (λ near. whole-within most a.turn.simulation a.turn.next chunks a.left (held_on s (first chunks) at (is_end chunks) lent held a) all room (omega (arith, near, h)))
      (λ fewer less. whole-within most a.turn.simulation 0 (others chunks) a.left
      (held_next s (first chunks) at (is_end chunks) lent held a (first (others chunks)) (first-held (others chunks) (others-held chunks all)))
      (others-held chunks all) room (omega (arith, fewer, less, h)))
    where
      by-wants : (r : Turn) (left : List ℕ) → One s (first chunks) at (is_end chunks) lent r left → (w : Wants) → r.wants ≡ w
          → (weight r.simulation < weight s → Whole One r.simulation r.next chunks)
          → (length chunks ≡ suc (length (others chunks)) → weight r.simulation ≤ weight s → Whole One r.simulation 0 (others chunks)) → Whole One s at chunks
      by-wants r left one Wants.Further e nearer fewer = absurd (subst (λ (x : Wants). Stopped x s (first chunks) (is_end chunks) lent r) e (owes s (first chunks) at (is_end chunks) lent r left one).wants)
      by-wants r left one Wants.Input e nearer fewer =
          let z : Stopped Wants.Input s (first chunks) (is_end chunks) lent r = subst (λ (x : Wants). Stopped x s (first chunks) (is_end chunks) lent r) e (owes s (first chunks) at (is_end chunks) lent r left one).wants in
          let rest = fewer (more-chunks chunks z.1) (owes s (first chunks) at (is_end chunks) lent r left one).less in
          record { count = suc rest.count; out = take r.written left ++ rest.out; last = rest.last; calls = Calls.input r lent left one roomy e rest.calls; over = rest.over }
      by-wants r left one Wants.Room e nearer fewer =
          let z : Stopped Wants.Room s (first chunks) (is_end chunks) lent r = subst (λ (x : Wants). Stopped x s (first chunks) (is_end chunks) lent r) e (owes s (first chunks) at (is_end chunks) lent r left one).wants in
          let rest = nearer (z.1 roomy) in
          record { count = suc rest.count; out = take r.written left ++ rest.out; last = rest.last; calls = Calls.room r lent left one roomy e rest.calls; over = rest.over }
      by-wants r left one Wants.Nothing e nearer fewer =
          record { count = 1; out = take r.written left; last = r.simulation; calls = Calls.over r lent left one roomy e; over = subst (λ (x : Wants). Stopped x s (first chunks) (is_end chunks) lent r) e (owes s (first chunks) at (is_end chunks) lent r left one).wants }

  pub calls-end : (s : Simulation) (chunks : List (List ℕ)) (lent : List ℕ) → RunHeld s → SlicesHeld chunks → SliceHeld lent → 256 ≤ length lent → Whole One s 0 chunks
  calls-end s chunks lent run all held roomy =
      whole-within (most_calls s chunks) s 0 chunks lent (record { run = run; chunk-held = first-held chunks all; place = omega arith; lent-held = held }) all roomy (omega arith)
