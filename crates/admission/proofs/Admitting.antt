-- Seconds that are admitted one after the other, as a loop counts them. Assumes nothing.
use Rattle.std.specs.Prelude.{Ok, Err, Result, is_err}
use Prim.Native.Nat.{ℕ, suc, ◌+◌, ◌-◌, ◌*◌, ◌≤◌, ◌<◌}
use mathlib.Core.Path.{◌≡◌, refl, sym, ap, ◌∙◌}
use mathlib.Core.Bool.{true, false}
use mathlib.Core.List.{List, [], ◌∷◌}
use native.Mathlib.Omega.{arith}
use lib.ListN.{length, take, drop, length-drop}
use lib.Seq.{take_all}
use borrow.Author.Tests.{ltb-true}
use lib.Dec.{ltb}
use Rattle.rules.specs.declared.answers.Refusal.{Refusal}
use Rattle.rules.specs.declared.run.Inputs.{Inputs}
use Rattle.rules.specs.Answers.{accepted, is_accepted, result_of}
use Rattle.rules.specs.RunRecord.{most_seconds}
use Rattle.rules.specs.Second.{admitted}
use Rattle.rules.specs.Seconds.{inputs_each}
use Rattle.rules.proofs.Checks.{passed}
use Rattle.rules.proofs.Tests.{never}
use Rattle.admission.specs.Admission.{first_inputs, admitted_to}
use Rattle.admission.proofs.Each.{each_at}

-- so many are admitted, and what is left tells the others
pub record Admitting (done : ℕ) (inputs : List ℕ) (most second count : ℕ) : Type 0 where
  pub range : 3 * most ≤ length inputs
  pub up_to : count ≤ most
  pub at : second ≡ done + count
  pub left : admitted_to done (inputs_each inputs) most ≡ count + admitted_to (done + count) (drop count (inputs_each inputs)) (most - count)

pub admitting-start : (done : ℕ) (inputs : List ℕ) (most : ℕ) → 3 * most ≤ length inputs → Admitting done inputs most done 0
admitting-start done inputs most h =
    let e : done + 0 ≡ done = omega arith in
    let k : most - 0 ≡ most = omega arith in
    let z : 0 + admitted_to done (inputs_each inputs) most ≡ admitted_to done (inputs_each inputs) most = omega arith in
    record { range = h; up_to = omega arith; at = sym e; left = rw (e, k, z) }

-- a second that was accepted is not past the last one
pub going : (second : ℕ) (x : Inputs) (room : ℕ) → admitted second x room ≡ accepted tt → second < most_seconds
unfolding admitted
going second x room h = ltb-true second most_seconds (passed (ltb second most_seconds) 23 0 _ tt h).0

no_room : (done : ℕ) (xs : List Inputs) → admitted_to done xs 0 ≡ 0
unfolding admitted_to
no_room done [] = refl
no_room done (x ∷ xs) = refl

module _ {done : ℕ} {inputs : List ℕ} {most second count : ℕ} (h : Admitting done inputs most second count) (l : count < most) where
  abbrev x : Inputs
  x = first_inputs (drop (3 * count) inputs)

  here : drop count (inputs_each inputs) ≡ x ∷ drop (suc count) (inputs_each inputs)
  here = each_at inputs count (omega (arith, h.range))

  room-left : most - count ≡ suc (most - suc count)
  room-left = omega arith

  pub admitting-none : is_accepted (admitted second x 256) ≡ false → count ≡ admitted_to done (inputs_each inputs) most
  unfolding admitted_to
  admitting-none e =
      let refuses : is_accepted (admitted (done + count) x 256) ≡ false = rw h.at at e in
      let z : count + 0 ≡ count = omega arith in
      sym (h.left ∙ rw (here, room-left, refuses, z))

  pub admitting-more : admitted second x 256 ≡ accepted tt → Admitting done inputs most (second + 1) (count + 1)
  unfolding admitted_to
  admitting-more e =
      let admits : is_accepted (admitted (done + count) x 256) ≡ true = rw h.at at (ap is_accepted e) in
      let a : count + 1 ≡ suc count = omega arith in
      let b : done + count + 1 ≡ done + suc count = omega arith in
      let move : (n : ℕ) → count + suc n ≡ suc count + n = λ n. omega arith in
      record {
        range = h.range;
        up_to = omega arith;
        at = omega (arith, h.at);
        left = rw a (h.left ∙ rw (here, room-left, admits, b) (move _));
      }

-- all that have room are
pub all-admitted : {done : ℕ} {inputs : List ℕ} {most second count : ℕ} → Admitting done inputs most second count → most ≤ count → count ≡ admitted_to done (inputs_each inputs) most
all-admitted {done} {inputs} {most} {second} {count} h l =
    let none : most - count ≡ 0 = omega arith in
    let z : count + 0 ≡ count = omega arith in
    sym (h.left ∙ rw (none, no_room (done + count) (drop count (inputs_each inputs)), z))

-- by the verdict on it
pub told-refused : (v : Result (Unit {0}) Refusal) (second : ℕ) (x : Inputs) (room : ℕ) → result_of v ≡ admitted second x room → is_err v ≡ true → is_accepted (admitted second x room) ≡ false
told-refused (Ok u) second x room e is = never is
told-refused (Err why) second x room e is = ap is_accepted (sym e)

pub told-accepted : (v : Result (Unit {0}) Refusal) (second : ℕ) (x : Inputs) (room : ℕ) → result_of v ≡ admitted second x room → is_err v ≡ false → admitted second x room ≡ accepted tt
told-accepted (Ok u) second x room e is = sym e
told-accepted (Err why) second x room e is = never (sym is)

-- a slice from a place on
pub rest_of : {A : Type 0} (l : List A) (n : ℕ) → take (length l - n) (drop n l) ≡ drop n l
rest_of l n = take_all (length l - n) (drop n l) (omega (arith, length-drop n l))
