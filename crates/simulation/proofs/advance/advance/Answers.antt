-- `advance` meets its contract: turn after turn, until one does not go on. Assumes nothing.
use Rattle.simulation.proofs.CallLaws.{further-on, going_start, going_on}
use Rattle.simulation.proofs.advance.advance.Goals as goal

pub loop-t-init : goal.loop-t-init
loop-t-init c = going_start _ _ _ _ _ _ c.min.ensures

pub turn-t-requires : goal.turn-t-requires
turn-t-requires c = (c.loop-t.invariant.within, c.loop-t.invariant.fits)

pub loop-t-preserved : goal.loop-t-preserved
loop-t-preserved c = going_on _ _ _ _ _ _ _ _ _ c.loop-t.invariant (further-on _ c.loop-t-test.true) c.turn-t.ensures

pub shape_of-out : goal.shape_of-out
shape_of-out c = c.loop-t.invariant.size
