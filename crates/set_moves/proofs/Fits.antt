-- A number that its type holds is that number. Assumes nothing.
use Rattle.std.proofs.Common.{◌≡◌, ℕ, ◌<◌, arith}
use Rattle.rules.specs.declared.run.SetState.{SetState}
use Rattle.set_moves.specs.InType.{in32, in64, switched_in}

pub small32 : (n : ℕ) → n < 4_294_967_296 → in32 n ≡ n
small32 n h = omega arith

pub small64 : (n : ℕ) → n < 18_446_744_073_709_551_616 → in64 n ≡ n
small64 n h = omega arith

pub switched-small : (s : SetState) → s.starts < 4_294_967_296 → s.stops < 4_294_967_296 → switched_in s ≡ s
switched-small s a b = rw (small32 s.starts a, small32 s.stops b)
