-- `put_refusal` meets its contract: a small buffer is refused, and any other takes the word and, after it, the two numbers. Assumes nothing.
use Prim.Native.Nat.{◌+◌, ◌≤◌}
use mathlib.Core.List.{[], ◌∷◌}
use native.Mathlib.Omega.{arith}
use lib.ListN.{length}
use Rattle.rules.specs.Bytes.{bytes, comma_line}
use Rattle.rules.specs.Row.{refusal_line}
use Rattle.decimals.specs.Commaed.{line_of}
use Rattle.texts.proofs.Texts.{goes_on}
use Rattle.texts.proofs.PutAt.{was-put, put_front}
use Rattle.rows.proofs.RowInBuffer.{text-refused, text-written}
use Rattle.rows.proofs.run_lines.put_refusal.Goals as goal

pub returns-then-buffer-lt-LEAST_ROW_BUFFER : goal.returns-then-buffer-lt-LEAST_ROW_BUFFER
returns-then-buffer-lt-LEAST_ROW_BUFFER c = let a = c.args in text-refused (refusal_line a.number a.place) a.buffer.now c.if-buffer-lt-LEAST_ROW_BUFFER.true

pub returns : goal.returns
unfolding refusal_line bytes line_of
returns c =
    let number = c.args.number in
    let place = c.args.place in
    let lent = c.args.buffer.now in
    let word = put_front 8 (bytes "refused,") lent _ _ (omega (arith, c.if-buffer-lt-LEAST_ROW_BUFFER.false)) c.put_text-at.ensures in
    let numbers = comma_line (number ∷ place ∷ []) in
    let left = c.put_text-at.new.buffer in
    let room : c.put_text-at.result + 42 ≤ length left = omega (arith, c.if-buffer-lt-LEAST_ROW_BUFFER.false, word.0, c.put_text-at.auto.buffer) in
    let p = was-put 42 numbers c.put_text-at.result left room _ _ c.put_numbers.ensures in
    text-written (refusal_line number place) lent _ _ (omega (arith, c.if-buffer-lt-LEAST_ROW_BUFFER.false)) (goes_on lent (bytes "refused,") numbers _ _ c.put_text-at.result _ word p.0 p.1)
