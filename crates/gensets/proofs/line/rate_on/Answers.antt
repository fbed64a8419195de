-- `line::rate_on` meets its contract: each answer is the one that its tests leave. Assumes nothing.
use Rattle.std.specs.Prelude.{Ok}
use mathlib.Core.Path.{◌≡◌, sym, ap, ◌∙◌}
use mathlib.Core.Bool.{true}
use Prim.Native.Nat.{ℕ, ◌/◌}
use Rattle.gensets.specs.Lines.{line_small}
use Rattle.gensets.proofs.LineSmall.{width_small, rate-here, rate-too-far, rate-too-large}
use Rattle.gensets.proofs.line.rate_on.Goals as goal
use Rattle.gensets.proofs.line.rate_on.Goals.{Else-not-is_small}

-- past the first test the line is small
small : (c : Else-not-is_small) → line_small c.args.line ≡ true
small c = sym c.is_small.ensures ∙ c.if-not-is_small.false

pub returns-then-not-is_small : goal.returns-then-not-is_small
returns-then-not-is_small c = rate-too-large _ _ (sym c.is_small.ensures ∙ c.if-not-is_small.true)

pub returns-then-at-gt-MOST_AT : goal.returns-then-at-gt-MOST_AT
returns-then-at-gt-MOST_AT c = rate-too-far _ (small c.before) _ c.if-at-gt-MOST_AT.true

pub height-requires : goal.height-requires
height-requires c = (small c.before, c.if-at-gt-MOST_AT.false)

pub nonzero_div-result : goal.nonzero_div-result
nonzero_div-result c = (width_small _ (small c.before.before.before)).0

pub returns : goal.returns
returns c =
    let s = c.before.before.before in
    ap (λ (h : ℕ). Ok (h / s.args.line.width)) c.height.ensures
    ∙ rate-here _ (small s) _ c.if-at-gt-MOST_AT.false
