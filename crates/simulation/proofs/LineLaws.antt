-- A line that is put into the tail of a lent buffer. Assumes nothing.
use Rattle.std.specs.Prelude.{Ok, Err, Result}
use Prim.Native.Nat.{ℕ, ◌+◌, ◌-◌, ◌≤◌}
use mathlib.Core.Path.{◌≡◌, refl, sym, ap, ◌∙◌}
use mathlib.Core.Bool.{true, false}
use mathlib.Core.List.{List, ◌++◌, append-nil}
use native.Mathlib.Omega.{arith}
use lib.Dec.{leb}
use lib.ListN.{length, take, drop, length-append, length-drop, drop_of_length-le, take-append-drop}
use lib.Seq.{take_all}
use Rattle.rules.specs.declared.answers.Refusal.{Refusal}
use Rattle.rows.specs.Written.{TextPut}
use Rattle.rows.proofs.Room.{put-means, none-means}
use Rattle.run_phases.specs.declared.state.Turn.{Turn}
use Rattle.run_phases.specs.declared.state.Wants.{Wants}
use Rattle.run_texts.specs.Text.{line_of}
use Rattle.simulation.specs.Turns.{LineMoved, with_line, waiting_for}

-- ---- the tail of a buffer that was lent, and the buffer when it has come back

pub rest-is : (l : List ℕ) (k : ℕ) → take (length l - k) (drop k l) ≡ drop k l
rest-is l k = take_all (length l - k) (drop k l) (omega (arith, length-drop k l))

pub back_is : (l ys : List ℕ) (k : ℕ) → take k l ++ (ys ++ drop (length l - k) (drop k l)) ≡ take k l ++ ys
back_is l ys k =
    let h : length (drop k l) ≤ length l - k = omega (arith, length-drop k l) in
    rw (drop_of_length-le (drop k l) h, append-nil)

-- a text that a part of a buffer took fits into it
pub put-fits : (text lent left : List ℕ) → left ≡ text ++ drop (length text) lent → length left ≡ length lent → length text ≤ length lent
put-fits text lent left is same = omega (arith, ap length is, length-append text (drop (length text) lent), length-drop (length text) lent)

-- ---- the turn

module _ (t : Turn) (out left : List ℕ) where
  abbrev line : List ℕ
  line = line_of t.simulation.phase t.simulation.course.run.sets

  abbrev lent : List ℕ
  lent = drop t.written out

  abbrev back : List ℕ
  back = take t.written out ++ (left ++ drop (length out - t.written) lent)

  module _ (answer : Result ℕ Refusal) (p : TextPut line lent answer left) (same : length left ≡ length lent) where
    pub line-room : (size : ℕ) → answer ≡ Ok size → t.written ≤ length out → t.written + size ≤ length out
    line-room size is h =
        let w = put-means line lent answer size left is p in
        omega (arith, w.size_is, put-fits line lent left w.left_is same, length-drop t.written out)

    pub line-moves : (size : ℕ) → answer ≡ Ok size → t.written ≤ length out
        → LineMoved t out (record { simulation = (with_line t).simulation; next = t.next; written = t.written + size; wants = Wants.Further }) back
    line-moves size is h =
        let w = put-means line lent answer size left is p in
        let e : leb 256 (length out - t.written) ≡ true = ap (leb 256) (sym (length-drop t.written out)) ∙ w.roomy in
        rw e (ap (λ (n : ℕ). record { simulation = (with_line t).simulation; next = t.next; written = t.written + n; wants = Wants.Further }) w.size_is, back_is out left t.written ∙ ap (λ (l : List ℕ). take t.written out ++ l) w.left_is, rw w.size_is at (line-room size is h))

    pub line-waits : (why : Refusal) → answer ≡ Err why → LineMoved t out (waiting_for t Wants.Room) back
    line-waits why is =
        let w = none-means line lent answer why left is p in
        let e : leb 256 (length out - t.written) ≡ false = ap (leb 256) (sym (length-drop t.written out)) ∙ w.0 in
        rw e (refl, back_is out left t.written ∙ ap (λ (l : List ℕ). take t.written out ++ l) w.1 ∙ take-append-drop t.written out)
