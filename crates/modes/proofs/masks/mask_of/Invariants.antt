-- `modes::masks::mask_of` meets its contract: the mask has the marked places before the one that is looked at. Assumes nothing.
use mathlib.Core.Bool.{false}
use lib.ListN.{get_or}
use Rattle.modes.proofs.MaskLaws.{Built}
use Rattle.modes.proofs.masks.mask_of.Given as goal

abbrev pub invariant-loop-is_marked : goal.invariant-loop-is_marked
invariant-loop-is_marked l = Built (λ i. get_or l.is_marked-items i false) l.is_marked-index l.weight l.mask
