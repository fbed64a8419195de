-- A turn leaves what was handed over and what is still to come as it was: a phase's line, the seconds, the waits. Assumes nothing.
use Prim.Native.Nat.{ℕ, ◌+◌, ◌≤◌, min}
use mathlib.Core.Path.{◌≡◌, refl, sym, ap, ◌∙◌}
use mathlib.Core.Bool.{Bool, true, false}
use mathlib.Core.List.{List, [], ◌∷◌, ◌++◌, append_assoc}
use native.Mathlib.Omega.{arith}
use lib.ListN.{length, take, drop, length-append, length-take, length-drop}
use lib.Seq.{take_at, drop_at, drop-drop}
use Rattle.rules.specs.declared.station.Station.{Station}
use Rattle.rules.specs.declared.run.Inputs.{Inputs}
use Rattle.rules.specs.declared.run.Run.{Run}
use Rattle.rules.specs.declared.run.Row.{Row}
use Rattle.rules.specs.Row.{row_text}
use Rattle.row_texts.specs.RowLines as lines
use Rattle.dispatch.specs.Working.{rows_of, run_after}
use Rattle.dispatch.proofs.Working.{run_on, rows_on}
use Rattle.run_phases.specs.declared.state.Simulation.{Simulation}
use Rattle.run_phases.specs.declared.state.Turn.{Turn}
use Rattle.run_phases.specs.declared.state.Wants.{Wants}
use Rattle.run_texts.specs.Rows.{row_texts, set_texts, rows_with}
use Rattle.run_texts.specs.Text.{to_print}
use Rattle.run_texts.specs.Coming.{Comes, weight, is_before_sets}
use Rattle.simulation.specs.Turns.{Ended, Moved, put_at}

-- ---- a text in a buffer

pub front_length : (l : List ℕ) (k : ℕ) → k ≤ length l → length (take k l) ≡ k
front_length l k h = length-take k l ∙ (let m : min k (length l) ≡ k = omega arith in m)

module _ (out text : List ℕ) (at : ℕ) (h : at + length text ≤ length out) where
  front-size : length (take at out ++ text) ≡ at + length text
  front-size = length-append (take at out) text ∙ ap (λ (n : ℕ). n + length text) (front_length out at (omega arith))

  regroup : put_at out at text ≡ (take at out ++ text) ++ drop (length text) (drop at out)
  regroup = sym (append_assoc (take at out) text (drop (length text) (drop at out)))

  pub put_front : take (at + length text) (put_at out at text) ≡ take at out ++ text
  put_front = rw regroup (take_at (take at out ++ text) (drop (length text) (drop at out)) (at + length text) front-size)

  pub put_rest : drop (at + length text) (put_at out at text) ≡ drop (at + length text) out
  put_rest =
      rw regroup (drop_at (take at out ++ text) (drop (length text) (drop at out)) (at + length text) front-size)
      ∙ drop-drop (length text) at out

  pub put-size : length (put_at out at text) ≡ length out
  put-size =
      ap length regroup ∙ length-append (take at out ++ text) (drop (length text) (drop at out))
      ∙ (let a = length-drop (length text) (drop at out) in let b = length-drop at out in let z : length (take at out ++ text) + length (drop (length text) (drop at out)) ≡ length out = omega (arith, front-size) in z)

-- ---- rows of some seconds and then of others

text-split : (xs ys : List Row) → lines.text_of (xs ++ ys) ≡ lines.text_of xs ++ lines.text_of ys
unfolding lines.text_of
text-split [] ys = refl
text-split (x ∷ xs) ys = ap (λ (l : List ℕ). row_text x ++ l) (text-split xs ys) ∙ sym (append_assoc (row_text x) (lines.text_of xs) (lines.text_of ys))

texts-split : (st : Station) (xs ys : List Inputs) (r : Run) → row_texts st (xs ++ ys) r ≡ row_texts st xs r ++ row_texts st ys (run_after st xs r)
texts-split st xs ys r = ap lines.text_of (rows_on st xs ys r) ∙ text-split (rows_of st xs r) (rows_of st ys (run_after st xs r))

pub with-split : (st : Station) (xs ys : List Inputs) (r : Run) → rows_with st (xs ++ ys) r ≡ row_texts st xs r ++ rows_with st ys (run_after st xs r)
unfolding rows_with
with-split st xs ys r =
    rw (texts-split st xs ys r, run_on st xs ys r) (append_assoc (row_texts st xs r) (row_texts st ys (run_after st xs r)) (set_texts st (run_after st ys (run_after st xs r))))

pub with_none : (st : Station) (r : Run) → rows_with st [] r ≡ set_texts st r
unfolding rows_with lines.text_of rows_of run_after
with_none st r = refl

-- ---- turns that hand nothing over

-- the run is as it was, but in its phase and source; `next` may have moved
module _ (t : Turn) (chunk : List ℕ) (ended : Bool) (out : List ℕ) (s : Simulation) (next : ℕ) (wants : Wants)
    (left-same : s.course.left ≡ t.simulation.course.left)
    (text_same : (xs : List Inputs) → length xs ≡ s.course.left → to_print t.simulation xs ≡ to_print s xs)
    (comes : (rest : List ℕ) → (ended ≡ true → rest ≡ []) → (xs : List Inputs) → Comes t.simulation (drop t.next chunk ++ rest) xs → Comes s (drop next chunk ++ rest) xs)
    (within : next ≤ length chunk) (onward : t.next ≤ next) (fits : t.written ≤ length out) (less : weight s ≤ weight t.simulation)
    (early : ended ≡ false → is_before_sets t.simulation.phase ≡ true → is_before_sets s.phase ≡ true) where
  abbrev after : Turn
  after = record { simulation = s; next = next; written = t.written; wants = wants }

  pub quiet : Ended wants t chunk ended out after → Moved t chunk ended out after out
  quiet e =
      record {
        worked = [];
        left_is = omega (arith, left-same);
        text = λ xs l. ap (λ (x : List ℕ). take t.written out ++ x) (text_same xs l);
        inputs = λ rest h xs c. record { others = xs; are = refl; come = comes rest h xs c };
        within = within;
        onward = onward;
        grows = omega arith;
        fits = fits;
        size = refl;
        kept = refl;
        less = less;
        small = λ h. refl;
        early = early;
        wants = e;
      }
