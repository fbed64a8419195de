-- Turn after turn of a call. Assumes nothing.
use Prim.Native.Nat.{ℕ, ◌+◌, ◌-◌, ◌*◌, ◌≤◌, ◌<◌, min}
use mathlib.Core.Path.{◌≡◌, refl, sym, ap, ◌∙◌, subst}
use mathlib.Core.Bool.{Bool, true, false}
use mathlib.Core.List.{List, [], ◌++◌, append_assoc}
use native.Mathlib.Omega.{arith}
use lib.ListN.{length, take, drop, length-append, drop_of_length-le}
use denote.Enum.Declared.{tag_of}
use lib.Dec.{eqb, leb}
use lib.Seq.{drop-drop}
use borrow.Author.Tests.{leb-true, leb-false}
use Rattle.rules.specs.declared.run.Inputs.{Inputs}
use Rattle.rules.proofs.Tests.{never}
use Rattle.run_phases.specs.contracts.state.Wants.{the_type}
use Rattle.run_phases.specs.declared.state.Simulation.{Simulation}
use Rattle.run_phases.specs.declared.state.Turn.{Turn}
use Rattle.run_phases.specs.declared.state.Wants.{Wants}
use Rattle.run_texts.specs.Text.{to_print}
use Rattle.run_texts.specs.Coming.{Comes, ComesOn, weight, is_before_sets}
use Rattle.simulation.specs.Turns.{Ended, Moved}
use Rattle.simulation.specs.Calls.{goes_on, Stopped, Called}

-- the test of what a turn wants
pub further-on : (w : Wants) → eqb (tag_of the_type w) 0 ≡ true → goes_on w ≡ true
further-on Wants.Further e = refl
further-on Wants.Input e = never e
further-on Wants.Room e = never e
further-on Wants.Nothing e = never e

-- whether a further turn is to come, as a number
abbrev pub count : Bool → ℕ
count true = 1
count false = 0

module _ (s : Simulation) (chunk : List ℕ) (at : ℕ) (ended : Bool) (out₀ : List ℕ) where
  -- what a turn ended for, while the call may go on
  abbrev StoppedYet : Wants → Turn → Type 0
  StoppedYet Wants.Further r = Unit {0}
  StoppedYet Wants.Input r = Stopped Wants.Input s chunk ended out₀ r
  StoppedYet Wants.Room r = Stopped Wants.Room s chunk ended out₀ r
  StoppedYet Wants.Nothing r = Stopped Wants.Nothing s chunk ended out₀ r

  pub record Going (out : List ℕ) (t : Turn) : Type 0 where
    pub worked : List Inputs
    pub left_is : length worked + t.simulation.course.left ≡ s.course.left
    pub text : (xs : List Inputs) → length xs ≡ t.simulation.course.left → to_print s (worked ++ xs) ≡ take t.written out ++ to_print t.simulation xs
    pub inputs : (rest : List ℕ) → (ended ≡ true → rest ≡ []) → (xs : List Inputs) → Comes s (drop at chunk ++ rest) xs
        → ComesOn worked xs t.simulation (drop t.next chunk ++ rest)
    pub within : t.next ≤ length chunk
    pub fits : t.written ≤ length out
    pub size : length out ≡ length out₀
    pub kept : drop t.written out ≡ drop t.written out₀
    pub less : weight t.simulation ≤ weight s
    pub small : length out₀ < 256 → t.written ≡ 0
    pub early : ended ≡ false → is_before_sets s.phase ≡ true → is_before_sets t.simulation.phase ≡ true
    pub some : 1 ≤ t.written → goes_on t.wants ≡ true → weight t.simulation < weight s
    pub stopped : StoppedYet t.wants t

  -- past the chunk's end there is as much as at its end
  same_place : drop (min at (length chunk)) chunk ≡ drop at chunk
  same_place = by-test (leb at (length chunk)) refl
    where
      by-test : (b : Bool) → leb at (length chunk) ≡ b → drop (min at (length chunk)) chunk ≡ drop at chunk
      by-test true e = let z = leb-true at (length chunk) e in ap (λ (n : ℕ). drop n chunk) (let m : min at (length chunk) ≡ at = omega (arith, z) in m)
      by-test false e =
          let z = leb-false at (length chunk) e in
          let a : length chunk ≤ min at (length chunk) = omega (arith, z) in
          let b : length chunk ≤ at = omega (arith, z) in
          drop_of_length-le chunk a ∙ sym (drop_of_length-le chunk b)

  pub going_start : (next : ℕ) → next ≡ min at (length chunk) → Going out₀ (record { simulation = s; next = next; written = 0; wants = Wants.Further })
  going_start next e =
      record {
        worked = [];
        left_is = omega arith;
        text = λ xs l. refl;
        inputs = λ rest h xs c. record { others = xs; are = refl; come = subst (λ (l : List ℕ). Comes s (l ++ rest) xs) (sym same_place ∙ ap (λ (n : ℕ). drop n chunk) (sym e)) c };
        within = omega (arith, e);
        fits = omega arith;
        size = refl;
        kept = refl;
        less = omega arith;
        small = λ h. refl;
        early = λ n b. b;
        some = λ h g. absurd (omega (arith, h));
        stopped = tt;
      }

  module _ (out out' : List ℕ) (t r : Turn) (g : Going out t) (on : goes_on t.wants ≡ true) (m : Moved t chunk ended out r out') where
    text-on : (xs : List Inputs) → length xs ≡ r.simulation.course.left → to_print s ((g.worked ++ m.worked) ++ xs) ≡ take r.written out' ++ to_print r.simulation xs
    text-on xs l =
        ap (to_print s) (append_assoc g.worked m.worked xs)
        ∙ g.text (m.worked ++ xs) (length-append m.worked xs ∙ (let z : length m.worked + length xs ≡ t.simulation.course.left = omega (arith, m.left_is, l) in z))
        ∙ m.text xs l

    inputs_on : (rest : List ℕ) → (ended ≡ true → rest ≡ []) → (xs : List Inputs) → Comes s (drop at chunk ++ rest) xs → ComesOn (g.worked ++ m.worked) xs r.simulation (drop r.next chunk ++ rest)
    inputs_on rest h xs c =
        let a = g.inputs rest h xs c in
        let b = m.inputs rest h a.others a.come in
        record {
          others = b.others;
          are = a.are ∙ ap (λ (l : List Inputs). g.worked ++ l) b.are ∙ sym (append_assoc g.worked m.worked b.others);
          come = b.come;
        }

    kept_on : drop r.written out' ≡ drop r.written out₀
    kept_on =
        let up : t.written + (r.written - t.written) ≡ r.written = omega (arith, m.grows) in
        let later : (l : List ℕ) → drop r.written l ≡ drop (r.written - t.written) (drop t.written l) =
        λ l. ap (λ (n : ℕ). drop n l) (sym up) ∙ sym (drop-drop (r.written - t.written) t.written l) in
        m.kept ∙ later out ∙ ap (drop (r.written - t.written)) g.kept ∙ sym (later out₀)

    stops : (w : Wants) → Ended w t chunk ended out r → StoppedYet w r
    stops Wants.Further e = tt
    stops Wants.Input e = e
    stops Wants.Room e =
        let wrote : 256 ≤ length out₀ → 0 < r.written = λ roomy. e.0 (omega (arith, roomy, g.size)) in
        (wrote, λ roomy. let z = wrote roomy in let w = g.some (omega (arith, z, e.1)) on in omega (arith, w, m.less))
    stops Wants.Nothing e = e

    some-on : (w : Wants) → Ended w t chunk ended out r → goes_on w ≡ true → weight r.simulation < weight s
    some-on Wants.Further e f = let z = e in omega (arith, z, g.less)
    some-on Wants.Input e f = never f
    some-on Wants.Room e f = never f
    some-on Wants.Nothing e f = never f

    pub going_on : Going out' r
    going_on =
        record {
          worked = g.worked ++ m.worked;
          left_is = (let z = length-append g.worked m.worked in omega (arith, z, g.left_is, m.left_is));
          text = text-on;
          inputs = inputs_on;
          within = m.within;
          fits = m.fits;
          size = m.size ∙ g.size;
          kept = kept_on;
          less = omega (arith, m.less, g.less);
          small = λ h. m.small (omega (arith, h, g.size)) ∙ g.small h;
          early = λ n b. m.early n (g.early n b);
          some = λ h f. some-on r.wants m.wants f;
          stopped = stops r.wants m.wants;
        }

    -- each turn that goes on comes nearer to the end, and one that does not is the last
    lighter : (w : Wants) (b : Bool) → b ≡ goes_on w → Ended w t chunk ended out r → 2 * weight r.simulation + count b < 2 * weight t.simulation + 1
    lighter Wants.Further true e h = let z = h in omega (arith, z)
    lighter Wants.Further false e h = never e
    lighter Wants.Input true e h = never (sym e)
    lighter Wants.Input false e h = omega (arith, m.less)
    lighter Wants.Room true e h = never (sym e)
    lighter Wants.Room false e h = omega (arith, m.less)
    lighter Wants.Nothing true e h = never (sym e)
    lighter Wants.Nothing false e h = omega (arith, m.less)

    pub turns-fall : (b : Bool) → b ≡ goes_on r.wants → 2 * weight r.simulation + count b < 2 * weight t.simulation + 1
    turns-fall b e = lighter r.wants b e m.wants

  ends-stopped : (w : Wants) (r : Turn) → goes_on w ≡ false → StoppedYet w r → Stopped w s chunk ended out₀ r
  ends-stopped Wants.Further r f h = never (sym f)
  ends-stopped Wants.Input r f h = h
  ends-stopped Wants.Room r f h = h
  ends-stopped Wants.Nothing r f h = h

  pub called : (out : List ℕ) (t : Turn) → Going out t → goes_on t.wants ≡ false → Called s chunk at ended out₀ t out
  called out t g f =
      record {
        worked = g.worked;
        left_is = g.left_is;
        text = g.text;
        inputs = g.inputs;
        within = g.within;
        fits = g.fits;
        kept = g.kept;
        less = g.less;
        small = g.small;
        early = g.early;
        wants = ends-stopped t.wants t f g.stopped;
      }
