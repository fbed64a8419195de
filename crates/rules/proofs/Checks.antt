-- Checks one after the other: what an answer says of each of them. Assumes nothing.
use Prim.Native.Nat.{ℕ}
use mathlib.Core.Path.{◌≡◌, refl}
use mathlib.Core.Bool.{Bool, true, false}
use Rattle.rules.specs.Answers.{Answer, accepted, refused, need, is_accepted, judged, value_or, ◌>>=◌, ◌>>◌}
use native.Mathlib.Omega.{arith}

-- nothing is both refused and accepted
pub not-accepted : {A B : Type 0} (number place : ℕ) (b : A) → ◌≡◌ {A = Answer A} (refused number place) (accepted b) → B
not-accepted number place b e = absurd (let z : ◌≡◌ {A = ℕ} 0 1 = cc in omega arith)

-- a check that passes leaves the rest
pub passes : {A : Type 0} (b : Bool) (n p : ℕ) (rest : Answer A) → b ≡ true → (need b n p >> rest) ≡ rest
passes true n p rest h = refl
passes false n p rest h = absurd (let z : ◌≡◌ {A = ℕ} 0 1 = cc in omega arith)

-- where the whole is accepted, the check passed, and so did the rest
pub passed : {A : Type 0} (b : Bool) (n p : ℕ) (rest : Answer A) (a : A) → (need b n p >> rest) ≡ accepted a → (b ≡ true) × (rest ≡ accepted a)
passed true n p rest a h = (refl, h)
passed false n p rest a h = absurd (let z : ◌≡◌ {A = ℕ} 0 1 = cc in omega arith)

-- the same of a check that is the last
pub last-passed : (b : Bool) (n p : ℕ) → need b n p ≡ accepted tt → b ≡ true
last-passed true n p h = refl
last-passed false n p h = absurd (let z : ◌≡◌ {A = ℕ} 0 1 = cc in omega arith)

-- the same of a check that is made of others
pub both-passed : {A : Type 0} (c : Answer (Unit {0})) (rest : Answer A) (a : A) → (c >> rest) ≡ accepted a → (c ≡ accepted tt) × (rest ≡ accepted a)
both-passed (accepted u) rest a h = (refl, h)
both-passed (refused n p) rest a h = absurd (let z : ◌≡◌ {A = ℕ} 0 1 = cc in omega arith)

-- where the whole is accepted, the first part gave a value, and the rest was accepted with it
pub bound : {A B : Type 0} (c : Answer A) (f : A → Answer B) (b : B) → (c >>= f) ≡ accepted b → (a : A) × (c ≡ accepted a) × (f a ≡ accepted b)
bound (accepted a) f b h = (a, refl, h)
bound (refused n p) f b h = absurd (let z : ◌≡◌ {A = ℕ} 0 1 = cc in omega arith)

pub is-accepted : (c : Answer (Unit {0})) → is_accepted c ≡ true → c ≡ accepted tt
is-accepted (accepted u) h = refl
is-accepted (refused n p) h = absurd (let z : ◌≡◌ {A = ℕ} 0 1 = cc in omega arith)

pub same-value : {A : Type 0} (a b : A) → ◌≡◌ {A = Answer A} (accepted a) (accepted b) → a ≡ b
same-value a b h = cc

-- an answer that is accepted is so with its value
pub value_of : {A : Type 0} (z : A) (a : Answer A) → accepted tt ≡ judged a → a ≡ accepted (value_or z a)
value_of z (accepted x) h = refl
value_of z (refused n p) h = absurd (let e : ◌≡◌ {A = ℕ} 0 1 = cc in omega arith)
