-- `words::little::little` meets its contract: the bytes from place `at` on are read. Assumes nothing.
use Prim.Native.Nat.{suc, ◌-◌, min}
use mathlib.Core.Path.{◌≡◌, refl}
use native.Mathlib.Omega.{arith}
use lib.ListN.{length}
use borrow.Author.Rules.{rules}
use Rattle.words.proofs.LittleLaws.{read_none, read-turn, below-turn, below_next, below-most}
use Rattle.words.proofs.little.little.Goals as goal

pub loop-at-init : goal.loop-at-init
loop-at-init c =
    let s = c.args.part.now in
    let e : c.min-at.result ≡ min 8 (length s) = search rules in
    let k : min 8 (length s) - c.min-at.result ≡ 0 = omega arith in
    record { read = read_none c.min-at.result s e; small = rw k (omega arith) }

pub overflow_mul-number : goal.overflow_mul-number
overflow_mul-number c =
    let at = c.loop-at in
    let most = min 8 (length c.args.part.now) in
    record { fits = omega (arith, below-most (suc (most - at.at)) _ (omega arith) (below-turn (most - at.at) at.number 0 at.invariant.small (omega arith))) }

pub overflow_add-number : goal.overflow_add-number
overflow_add-number c =
    let at = c.loop-at in
    let most = min 8 (length c.args.part.now) in
    record { fits = below-most (suc (most - at.at)) _ (omega arith) (below-turn (most - at.at) at.number _ at.invariant.small (search rules)) }

pub loop-at-preserved : goal.loop-at-preserved
loop-at-preserved c =
    let at = c.loop-at in
    let s = c.args.part.now in
    record {
      read = read-turn at.at at.number _ s (omega arith) (omega arith) (omega arith) at.invariant.read refl;
      small = below_next (min 8 (length s)) at.at at.number _ (omega arith) (omega arith) at.invariant.small (search rules);
    }
