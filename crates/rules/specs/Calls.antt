-- Calls of a second one after the other, as a caller sees them: "Each gets the record last handed back". Of a call only what `One` says is
-- known.
use Rattle.std.specs.Prelude.{ℕ, List, [], ◌∷◌}
use Rattle.rules.specs.declared.run.Handed.{Handed}
use Rattle.rules.specs.declared.run.Inputs.{Inputs}
use Rattle.rules.specs.declared.run.Run.{Run}

-- what a call is handed beside station and record, what it hands back, and its buffer as it is left
pub record Call : Type 0 where
  pub inputs : Inputs
  pub lent : List ℕ
  pub handed : Handed
  pub left : List ℕ

-- from the first record to the last
pub data Chained (One : Run → Call → Type 0) : Run → List Call → Run → Type 0 where
  none : {r : Run} → Chained One r [] r
  more : {r last : Run} {c : Call} {cs : List Call} → One r c → Chained One c.handed.run cs last → Chained One r (c ∷ cs) last
