-- Ranges that are asked beside the rules that they follow from. Assumes nothing.
use Prim.Native.Nat.{ℕ}
use mathlib.Core.Path.{◌≡◌, refl}
use mathlib.Core.Bool.{Bool, true, false, ◌&&◌}
use native.Mathlib.Omega.{arith}
use lib.Dec.{leb, eqb}
use borrow.Author.Tests.{leb-true, le-leb, eqb-true}
use Rattle.rules.specs.declared.station.Battery.{Battery}
use Rattle.rules.specs.Numbers.{within}
use Rattle.rules.specs.StationRecord.{battery_rules, battery_right}
use Rattle.rules.proofs.Tests.{and-true, all-at, fact-within}

-- a test that holds wherever another does changes nothing after it
follows : (a b : Bool) → (a ≡ true → b ≡ true) → a && b ≡ a
follows true b h = h refl
follows false b h = refl

-- "0 where the interval is 0": 0 is within the range of every service time
pub zero-within : (most service : ℕ) → eqb service 0 && within 0 most service ≡ eqb service 0
zero-within most service =
    follows (eqb service 0) (within 0 most service) (λ h. let e = eqb-true service 0 h in fact-within 0 most service (omega arith) (omega (arith, e)))

-- "least <= start <= most <= 10,000,000,000,000": so are the least and the start
pub contents-below : (b : Battery) → battery_right b && (leb b.least 10_000_000_000_000 && leb b.start 10_000_000_000_000) ≡ battery_right b
unfolding battery_right
contents-below b =
    follows (battery_right b) (leb b.least 10_000_000_000_000 && leb b.start 10_000_000_000_000) (λ h.
    let least = leb-true b.least b.start (all-at (battery_rules b) 2 h) in
    let start = leb-true b.start b.most (all-at (battery_rules b) 3 h) in
    let most = leb-true b.most 10_000_000_000_000 (all-at (battery_rules b) 4 h) in
    and-true (le-leb b.least 10_000_000_000_000 (omega (arith, least, start, most))) (le-leb b.start 10_000_000_000_000 (omega (arith, start, most))))
