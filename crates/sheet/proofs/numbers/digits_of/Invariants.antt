-- `sheet::numbers::digits_of` meets its contract. What is left of the text decides, with the value of its digits so far. Assumes nothing.
use Prim.Native.Nat.{◌^◌, ◌≤◌, ◌<◌}
use mathlib.Core.Path.{◌≡◌}
use lib.ListN.{length, drop}
use Rattle.rules.specs.Bytes.{digits, value}
use Rattle.sheet.specs.Digits.{formed}
use Rattle.sheet.proofs.DigitLaws.{to_read}
use Rattle.sheet.proofs.numbers.digits_of.Given as goal

abbrev pub invariant-loop-byte : goal.invariant-loop-byte
invariant-loop-byte l =
    (length l.part ≤ 9) × (l.number < 10 ^ l.byte-index) × (formed (digits l.most l.part) (value l.part) ≡ to_read l.number (drop l.byte-index l.part))
