-- What the shares of a mask and the rate of a set are for any record, also one that no file gives.
-- Document 01 gives both for a station of some file. Here the answer has a case of its own for numbers that no file gives, where
-- they would lead the arithmetic astray, and one for a power above what the rule is for: neither is a refusal of the paper.
use Rattle.std.specs.Prelude.{ℕ, suc, ◌*◌, ◌≤◌, ◌<◌, ◌≡◌, Bool, not, ◌&&◌, List, [], ◌∷◌, leb, ltb, replicate, if◌then◌else◌, Ok, Err, Result}
use Rattle.rules.specs.declared.station.GenSet.{GenSet}
use Rattle.rules.specs.Numbers.{within, tab, all_hold}
use Rattle.rules.specs.Share.{capacity, share}
use Rattle.rules.specs.Fuel.{load_at, rate_at, lower_point, fuel_rate}
use Rattle.gensets.specs.declared.share.Unshared.{Unshared}
use Rattle.gensets.specs.declared.fuel.NoRate.{NoRate}

-- ---- step 6: "each takes diesel x C / cap less the same at the set before"

-- eight sets of a file have at most 80,000,000 W
unfoldable pub shares_told : List GenSet → ℕ → ℕ → Result (List ℕ) Unshared
shares_told sets mask diesel =
    if ltb 80_000_000 (capacity sets mask) then Err Unshared.OutOfRange else
    if ltb (capacity sets mask) diesel then Err Unshared.OverCapacity else
    Ok (tab 8 (share sets mask diesel))

-- the watts of an answer, and none at any place where it has none
abbrev pub watts_of : Result (List ℕ) Unshared → List ℕ
watts_of (Ok watts) = watts
watts_of (Err why) = replicate 8 0

-- some power that can be shared, beside the capacity
pub record Shareable (sets : List GenSet) (mask diesel cap : ℕ) : Type 0 where
  pub is-capacity : cap ≡ capacity sets mask
  pub small : cap ≤ 80_000_000
  pub allowed : diesel ≤ cap
  pub some : 0 < diesel

-- ---- step 8: the rate of one set

-- the set's rating, and its points j and j + 1, are in rule
abbrev pub line_rules : GenSet → ℕ → List Bool
line_rules g j =
    within 1 10_000_000 g.rating
    ∷ ltb (load_at g j) (load_at g (suc j))
    ∷ leb (load_at g (suc j)) 1_500
    ∷ leb (rate_at g j) 10_000_000
    ∷ leb (rate_at g (suc j)) 10_000_000
    ∷ []

unfoldable pub line_right : GenSet → ℕ → Bool
line_right g j = all_hold (line_rules g j)

-- the numbers that the rate is worked with are in rule: how many points the set has, and the line around the power
unfoldable pub rateable : GenSet → ℕ → Bool
rateable g power = within 2 5 g.points && line_right g (lower_point g power)

-- up to twice the rating
unfoldable pub rate_told : GenSet → ℕ → Result ℕ NoRate
rate_told g power =
    if not (rateable g power) then Err NoRate.OutOfRange else
    if ltb (2 * g.rating) power then Err NoRate.OverTwiceRating else
    Ok (fuel_rate g power)
