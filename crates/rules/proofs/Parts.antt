-- The parts of a line are the line's own bytes: joined by the byte between them they are the line again, and none has that
-- byte in it. So no heading and no cell is lost, made or moved. Assumes nothing.
use Rattle.std.specs.Prelude.{if◌then◌else◌}
use Prim.Native.Nat.{ℕ}
use mathlib.Core.Path.{◌≡◌, refl, ap, ◌∙◌}
use mathlib.Core.Bool.{Bool, true, false, not}
use mathlib.Core.List.{List, [], ◌∷◌, ◌++◌}
use lib.Dec.{eqb}
use borrow.Author.Tests.{eqb-true}
use Rattle.rules.specs.Numbers.{every}
use Rattle.rules.specs.Bytes.{in_front, parts}
use Rattle.rules.proofs.Tests.{both, and-true}

-- the parts with the byte c between each two
unfoldable pub joined : ℕ → List (List ℕ) → List ℕ
joined c [] = []
joined c (p ∷ []) = p
joined c (p ∷ q ∷ r) = p ++ (c ∷ joined c (q ∷ r))

-- there is always a part
data Some : List (List ℕ) → Type 0 where
  some : {p : List ℕ} {ps : List (List ℕ)} → Some (p ∷ ps)

front-some : (x : ℕ) (ps : List (List ℕ)) → Some (in_front x ps)
front-some x [] = some
front-some x (p ∷ ps) = some

parts-some : (c : ℕ) (s : List ℕ) → Some (parts c s)
unfolding parts
parts-some c [] = some
parts-some c (x ∷ s) = go (eqb x c)
  where
    go : (b : Bool) → Some (if b then [] ∷ parts c s else in_front x (parts c s))
    go true = some
    go false = front-some x (parts c s)

joined-front : (c x : ℕ) (ps : List (List ℕ)) → Some ps → joined c (in_front x ps) ≡ x ∷ joined c ps
unfolding joined
joined-front c x [] h = elim h [ ]
joined-front c x (p ∷ []) some = refl
joined-front c x (p ∷ q ∷ r) some = refl

joined-blank : (c : ℕ) (ps : List (List ℕ)) → Some ps → joined c ([] ∷ ps) ≡ c ∷ joined c ps
unfolding joined
joined-blank c [] h = elim h [ ]
joined-blank c (p ∷ ps) some = refl

pub parts-joined : (c : ℕ) (s : List ℕ) → joined c (parts c s) ≡ s
unfolding parts joined
parts-joined c [] = refl
parts-joined c (x ∷ s) = go (eqb x c) refl (parts-joined c s)
  where
    go : (b : Bool) → eqb x c ≡ b → joined c (parts c s) ≡ s → joined c (if b then [] ∷ parts c s else in_front x (parts c s)) ≡ x ∷ s
    go true e ih = joined-blank c (parts c s) (parts-some c s) ∙ (rw (ih, eqb-true x c e))
    go false e ih = joined-front c x (parts c s) (parts-some c s) ∙ ap (λ (l : List ℕ). x ∷ l) ih

-- no byte c in any part
abbrev pub without : ℕ → List ℕ → Bool
without c p = every (λ x. not (eqb x c)) p

front-without : (c x : ℕ) (ps : List (List ℕ)) → eqb x c ≡ false → every (without c) ps ≡ true → every (without c) (in_front x ps) ≡ true
unfolding every
front-without c x [] e h = rw e
front-without c x (p ∷ ps) e h =
    let t = both (without c p) (every (without c) ps) h in
    rw e (and-true t.0 t.1)

pub parts-without : (c : ℕ) (s : List ℕ) → every (without c) (parts c s) ≡ true
unfolding parts every
parts-without c [] = refl
parts-without c (x ∷ s) = go (eqb x c) refl (parts-without c s)
  where
    go : (b : Bool) → eqb x c ≡ b → every (without c) (parts c s) ≡ true → every (without c) (if b then [] ∷ parts c s else in_front x (parts c s)) ≡ true
    go true e h = h
    go false e h = front-without c x (parts c s) e h
