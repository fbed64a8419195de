-- `write_commaed` meets its contract. The invariant: the bytes before `at`, and the numbers so far, each with its comma, stand at the
-- buffer's front. Assumes nothing.
use Prim.Native.Nat.{ℕ, ◌<◌}
use mathlib.Core.Path.{◌≡◌, refl}
use mathlib.Core.List.{◌++◌}
use native.Mathlib.Omega.{arith}
use lib.ListN.{length, take, get_or}
use lib.Seq.{take_all}
use Rattle.rules.specs.Bytes.{comma}
use Rattle.decimals.specs.Commaed.{ended, commaed}
use Rattle.texts.proofs.Texts.{goes_on, from-here, stands}
use Rattle.decimals.proofs.Lines.{length-ended, length-step, commaed-on, within}
use Rattle.decimals.proofs.numbers.write_commaed.Goals as goal

pub loop-number-init : goal.loop-number-init
unfolding commaed
loop-number-init c =
    let a = c.args in
    (c.requires, refl, omega arith, omega (arith, c.requires), from-here a.buffer.now a.at (omega (arith, c.requires)))

pub put_number-end-requires : goal.put_number-end-requires
put_number-end-requires c =
    let l = c.loop-number in
    let a = c.args in
    omega (arith, l.invariant.2, l.invariant.0, l.invariant.1, within a.numbers.now l.number-index c.loop-number-test.true)

pub loop-number-preserved : goal.loop-number-preserved
loop-number-preserved c =
    let l = c.loop-number in
    let a = c.args in
    let p = c.put_number-end in
    let x : ℕ = get_or a.numbers.now l.number-index 0 in
    let less : l.number-index < length a.numbers.now = c.loop-number-test.true in
    let room = within a.numbers.now l.number-index less in
    let f = goes_on a.buffer.now (take a.at a.buffer.now ++ commaed (take l.number-index a.numbers.now)) (ended x comma) l.buffer _ l.end _ l.invariant.4 p.ensures.0 p.ensures.1 in (
      l.invariant.0,
      omega (arith, p.auto.buffer, l.invariant.1),
      omega (arith, p.ensures.0, l.invariant.2, length-ended x comma, length-step a.numbers.now l.number-index less),
      omega (arith, p.ensures.0, l.invariant.2, l.invariant.0, l.invariant.1, p.auto.buffer, length-ended x comma, room),
      rw (commaed-on (take a.at a.buffer.now) a.numbers.now l.number-index less) at f,
    )

pub returns : goal.returns
returns c =
    let l = c.loop-number in
    let a = c.args in
    let whole : take l.number-index a.numbers.now ≡ a.numbers.now = take_all l.number-index a.numbers.now c.loop-number-test.false in
    stands a.buffer.now (commaed a.numbers.now) l.buffer a.at l.end (omega (arith, l.invariant.0)) (rw whole at l.invariant.4)
