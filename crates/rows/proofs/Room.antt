-- What the answer to a text that was put into a buffer says of the buffer's room. Assumes nothing.
use Rattle.std.specs.Prelude.{Ok, Err, Result}
use Prim.Native.Nat.{ℕ, ◌≤◌}
use mathlib.Core.Path.{◌≡◌, refl, ap}
use mathlib.Core.Bool.{Bool, true, false}
use mathlib.Core.List.{List, ◌++◌}
use native.Mathlib.Omega.{arith}
use lib.Dec.{leb}
use lib.ListN.{length, take, drop, length-append, length-take}
use Rattle.rules.specs.declared.answers.Refusal.{Refusal}
use Rattle.rules.specs.Answers.{accepted, need, ◌>>◌, refusal_of}
use Rattle.rows.specs.Written.{TextPut, text_written, length_of, buffer_with}

pub record Put (text lent : List ℕ) (size : ℕ) (left : List ℕ) : Type 0 where
  pub roomy : leb 256 (length lent) ≡ true
  pub size_is : size ≡ length text
  pub left_is : left ≡ text ++ drop (length text) lent

put-by : (text lent : List ℕ) (size : ℕ) (left : List ℕ) (b : Bool) → leb 256 (length lent) ≡ b → accepted size ≡ length_of (need b 26 0 >> accepted text) → left ≡ buffer_with lent (need b 26 0 >> accepted text) → Put text lent size left
put-by text lent size left true e a l = record { roomy = e; size_is = (cc); left_is = l }
put-by text lent size left false e a l = absurd (let z : ◌≡◌ {A = ℕ} 0 1 = cc in omega arith)

pub put-means : (text lent : List ℕ) (answer : Result ℕ Refusal) (size : ℕ) (left : List ℕ) → answer ≡ Ok size → TextPut text lent answer left → Put text lent size left
unfolding text_written
put-means text lent answer size left is p = put-by text lent size left (leb 256 (length lent)) refl (rw is at p.answers) p.leaves

none-by : (text lent : List ℕ) (why : Refusal) (left : List ℕ) (b : Bool) → leb 256 (length lent) ≡ b → refusal_of why ≡ length_of (need b 26 0 >> accepted text) → left ≡ buffer_with lent (need b 26 0 >> accepted text) → (leb 256 (length lent) ≡ false) × (left ≡ lent)
none-by text lent why left true e a l = absurd (let z : ◌≡◌ {A = ℕ} 0 1 = cc in omega arith)
none-by text lent why left false e a l = (e, l)

pub none-means : (text lent : List ℕ) (answer : Result ℕ Refusal) (why : Refusal) (left : List ℕ) → answer ≡ Err why → TextPut text lent answer left → (leb 256 (length lent) ≡ false) × (left ≡ lent)
unfolding text_written
none-means text lent answer why left is p = none-by text lent why left (leb 256 (length lent)) refl (rw is at p.answers) p.leaves

-- a text that was put lies within the buffer
pub put-within : (text lent : List ℕ) (answer : Result ℕ Refusal) (size : ℕ) (left : List ℕ) → answer ≡ Ok size → TextPut text lent answer left → (size ≤ length left) × (size ≡ length (take size left))
put-within text lent answer size left is p =
    let w = put-means text lent answer size left is p in
    let within : size ≤ length left = omega (arith, w.size_is, ap length w.left_is, length-append text (drop (length text) lent)) in
    (within, omega (arith, within, length-take size left))
