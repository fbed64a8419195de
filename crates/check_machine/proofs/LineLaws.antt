-- What is left of a chunk is its end, and so is what is left past some bytes of that. Assumes nothing.
use Prim.Native.Nat.{ℕ, ◌-◌, ◌+◌}
use native.Mathlib.Omega.{arith}
use mathlib.Core.Path.{◌≡◌, ap, sym, subst, ◌∙◌}
use mathlib.Core.List.{List}
use lib.ListN.{length, take, drop}
use lib.Seq.{take_all, drop-drop}
use Rattle.std.proofs.Common.{◌≤◌}
use Rattle.std.proofs.lemmas.List.{length-drop}

abbrev pub ends : List ℕ → List ℕ → Type 0
ends rest chunk = (length rest ≤ length chunk) × (rest ≡ drop (length chunk - length rest) chunk)

pub ends-later : (rest chunk : List ℕ) (n : ℕ) → n ≤ length rest → ends rest chunk → ends (take (length rest - n) (drop n rest)) chunk
ends-later rest chunk n least k =
    let all : take (length rest - n) (drop n rest) ≡ drop n rest = take_all _ _ (omega (arith, length-drop n rest)) in
    let left : length (drop n rest) ≡ length rest - n = length-drop n rest in
    let at : drop n rest ≡ drop (length chunk - length rest + n) chunk = ap (drop n) k.1 ∙ drop-drop n (length chunk - length rest) chunk in
    let far : length chunk - length rest + n ≡ length chunk - length (drop n rest) = omega (arith, left, k.0, least) in
    let past : ends (drop n rest) chunk = (omega (arith, left, k.0), at ∙ ap (λ m. drop m chunk) far) in
    subst (λ l. ends l chunk) (sym all) past
