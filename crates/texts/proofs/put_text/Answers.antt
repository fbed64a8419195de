-- `put_text` meets its contract. Assumes nothing.
use Prim.Native.Nat.{◌+◌, ◌≤◌}
use mathlib.Core.Path.{refl}
use native.Mathlib.Omega.{arith}
use lib.ListN.{length}
use Rattle.texts.proofs.Texts.{copied}
use Rattle.texts.proofs.PutAt.{left_out, put-there}
use Rattle.texts.proofs.put_text.Goals as goal

pub returns-then-buffer-at : goal.returns-then-buffer-at
returns-then-buffer-at c = left_out (length c.args.text.now) c.args.text.now c.args.at c.args.buffer.now (omega (arith, c.if-buffer-at.true))

pub returns-then-buffer-at-2 : goal.returns-then-buffer-at-2
returns-then-buffer-at-2 c = left_out (length c.args.text.now) c.args.text.now c.args.at c.args.buffer.now (omega (arith, c.if-buffer-at.false, c.if-buffer-at-2.true))

pub returns : goal.returns
returns c =
    let text = c.args.text.now in
    let room : c.args.at + length text ≤ length c.args.buffer.now = omega (arith, c.if-buffer-at.false, c.if-buffer-at-2.false) in
    put-there (length text) text c.args.at c.args.buffer.now room _ _ refl (copied c.args.buffer.now text c.copy_from_slice.new.self c.args.at c.copy_from_slice.ensures.after)
