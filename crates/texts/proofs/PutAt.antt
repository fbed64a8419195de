-- A text that is put where so many bytes have room, and left out where they have none. Assumes nothing.
use Rattle.std.specs.Prelude.{if◌then◌else◌}
use Prim.Native.Nat.{ℕ, ◌+◌, ◌≤◌, ◌<◌}
use mathlib.Core.Path.{◌≡◌, refl, sym}
use mathlib.Core.Bool.{Bool, true, false}
use mathlib.Core.List.{List, []}
use native.Mathlib.Omega.{arith}
use lib.Dec.{leb}
use lib.ListN.{length, take-append-drop}
use borrow.Author.Tests.{le-leb, lt-leb}
use Rattle.texts.specs.Placed.{placed, roomy, PutAt, Front}
use Rattle.texts.proofs.Texts.{goes_on}

module _ (most : ℕ) (text : List ℕ) (at : ℕ) (lent : List ℕ) where
  pub left_out : length lent < at + most → PutAt most text at lent at lent
  unfolding roomy
  left_out h = rw (lt-leb (at + most) (length lent) h) (omega arith, sym (take-append-drop at lent))

  module _ (room : at + most ≤ length lent) where
    pub put-there : (told : ℕ) (left : List ℕ) → told ≡ at + length text → left ≡ placed lent at text → PutAt most text at lent told left
    unfolding roomy
    put-there told left e f = rw (le-leb (at + most) (length lent) room) (e, f)

    -- what a caller with room enough has
    pub was-put : (told : ℕ) (left : List ℕ) → PutAt most text at lent told left → (told ≡ at + length text) × (left ≡ placed lent at text)
    unfolding roomy
    was-put told left p = rw (le-leb (at + most) (length lent) room) at p

-- an empty text changes nothing, with room or without
pub nothing_put : (most at : ℕ) (lent : List ℕ) → PutAt most [] at lent at lent
unfolding roomy
nothing_put most at lent = go (leb (at + most) (length lent))
  where
    go : (b : Bool) → (at ≡ at + length (if◌then◌else◌ {A = List ℕ} b [] [])) × (lent ≡ placed lent at (if b then [] else []))
    go true = (omega arith, sym (take-append-drop at lent))
    go false = (omega arith, sym (take-append-drop at lent))

-- and of a text at the buffer's front
pub put_front : (most : ℕ) (text lent : List ℕ) (told : ℕ) (left : List ℕ) → most ≤ length lent → PutAt most text 0 lent told left → Front lent text told left
put_front most text lent told left room p =
    let w = was-put most text 0 lent (omega arith) told left p in
    goes_on lent [] text lent left 0 told (refl, refl) w.0 w.1
