-- `sizing::share::share_of_set` meets its contract. Assumes nothing.
use Prim.Native.Nat.{◌-◌, ◌<◌}
use mathlib.Core.Path.{◌≡◌, ◌∙◌}
use mathlib.Core.Logic.{◌⊎◌, inl, inr}
use native.Mathlib.Omega.{arith}
use Rattle.rules.proofs.StationFacts.{right_of}
use Rattle.rules.specs.Sizing.{share_of_set}
use Rattle.sizing.proofs.Asked.{no-set-zero, no-set-beyond, set-share, watts-shared}
use borrow.Author.Rules.{rules}
use Rattle.sizing.proofs.share.share_of_set.Goals as goal

pub returns-then-set-eq0 : goal.returns-then-set-eq0
returns-then-set-eq0 c = go c.then-set-eq0.either
  where
    go : (c.args.set ≡ 0) ⊎ ((c.args.set ≡ 0 → ⊥) × (c.args.st.setcount < c.args.set)) → 0 ≡ share_of_set c.args.st c.args.mask c.args.power c.args.set
    go (inl e) = no-set-zero c.args.st c.args.mask c.args.power c.args.set e
    go (inr (n, l)) = no-set-beyond c.args.st c.args.mask c.args.power c.args.set l

pub offset_bounds-watts-at : goal.offset_bounds-watts-at
offset_bounds-watts-at c = let n : c.args.set - 1 < 8 = omega (arith, (right_of c.args.st c.requires.0).setcount.1) in search rules

pub bounds-watts-at : goal.bounds-watts-at
bounds-watts-at c = omega (arith, (right_of c.args.st c.requires.0).setcount.1)

pub returns : goal.returns
returns c =
    let a = c.args in
    let at : a.set - 1 < 8 = omega (arith, (right_of a.st c.requires.0).setcount.1) in
    watts-shared a.st c.requires.0 a.mask a.power c.requires.1 _ c.shares.ensures _ c.watts_of-watts.ensures (a.set - 1) at ∙ set-share a.st a.mask a.power a.set (search rules) (search rules)
