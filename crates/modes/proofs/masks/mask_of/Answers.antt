-- `modes::masks::mask_of` meets its contract: the mask has the marked places before the one that is looked at. Assumes nothing.
use native.Mathlib.Omega.{arith}
use Rattle.modes.proofs.MaskLaws.{built-start, built-small, built-with, built-without, built-end}
use Rattle.modes.proofs.masks.mask_of.Goals as goal
use Rattle.modes.proofs.masks.mask_of.Goals.{then-is_marked, else-is_marked}

pub loop-is_marked-init : goal.loop-is_marked-init
loop-is_marked-init c = built-start _

pub overflow_add-mask : goal.overflow_add-mask
overflow_add-mask c = record { fits = omega (arith, built-small _ _ _ _ c.loop-is_marked.invariant) }

pub overflow_mul-weight : goal.overflow_mul-weight
overflow_mul-weight c = record { fits = omega (arith, built-small _ _ _ _ c.loop-is_marked.invariant) }

pub loop-is_marked-preserved : goal.loop-is_marked-preserved
loop-is_marked-preserved c =
    elim c.if-is_marked.branch [
      | then-is_marked w ↦ rw w.mask-is (built-with _ _ _ _ c.loop-is_marked.invariant (omega arith) w.if-is_marked.true)
      | else-is_marked w ↦ rw w.mask-is (built-without _ _ _ _ c.loop-is_marked.invariant (omega arith) w.if-is_marked.false)
    ]

pub returns : goal.returns
returns c =
    let b = built-end _ _ _ _ c.loop-is_marked.invariant (omega arith) in
    record { value = b.0; upper_bound = b.1 }
