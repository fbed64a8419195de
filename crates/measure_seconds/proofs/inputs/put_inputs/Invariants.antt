-- `measure_seconds::inputs::put_inputs` is safe. The numbers keep their length. Assumes nothing.
use Rattle.std.proofs.Common.{◌≡◌, length}
use Rattle.measure_seconds.proofs.inputs.put_inputs.Given as goal

abbrev pub invariant-loop-i : goal.invariant-loop-i
invariant-loop-i l = length l.inputs ≡ length l.initial.inputs
