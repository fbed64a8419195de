-- What is known of a call of the station reader, of the start, of the second and of many seconds: what it was handed and what it gave, and
-- of the two no more than the function's own contract, as the source states it, ensures. `Pre` is what that contract asks.
use Rattle.std.specs.Prelude.{ℕ, ◌≡◌, List, Result}
use borrow.Fn.Kinds as kinds
use contract.Lifetimes.{Lfts}
use denote.Triple.Clauses as clauses
use Rattle.rules.specs.declared.answers.Refusal.{Refusal}
use Rattle.rules.specs.declared.station.Station.{Station}
use Rattle.rules.specs.declared.run.Run.{Run}
use Rattle.rules.specs.Calls.{Call}
use Rattle.station.proofs.reader.read_station as read
use Rattle.records.specs.declared.start.Started.{Started}
use Rattle.records.proofs.start.start as start
use Rattle.dispatch.proofs.second.second as second
use Rattle.steady.proofs.seconds.seconds as seconds
use Rattle.claims_rules.specs.Batches.{ManyCall}

-- `station::reader::read_station` was handed a file, and gave g
pub record ReadBy (file : List ℕ) (g : Result Station Refusal) : Type 0 where
  pub κs : Lfts 1
  pub args : kinds.Dens κs read.Kinds.ps
  pub exit : clauses.AtExit (kinds.ended_of 1 read.Kinds.ps read.Kinds.r) κs
  pub passed : args.0.now ≡ file
  pub returned : read.Reads.Post κs args g exit

-- `records::start::start` was handed st, and gave g
pub record StartedBy (st : Station) (g : Started) : Type 0 where
  pub κs : Lfts 0
  pub args : kinds.Dens κs start.Kinds.ps
  pub exit : clauses.AtExit (kinds.ended_of 0 start.Kinds.ps start.Kinds.r) κs
  pub passed : args.0 ≡ st
  pub returned : start.Reads.Post κs args g exit

-- `dispatch::second::second` was handed st, r and the call's inputs and buffer, and gave what the call has
pub record CalledBy (st : Station) (r : Run) (c : Call) : Type 0 where
  pub κs : Lfts 1
  pub args : kinds.Dens κs second.Kinds.ps
  pub exit : clauses.AtExit (kinds.ended_of 1 second.Kinds.ps second.Kinds.r) κs
  pub passed : (args.0 ≡ st) × (args.1.0 ≡ r) × (args.1.1.0 ≡ c.inputs) × (args.1.1.1.0.now ≡ c.lent)
  pub returned : second.Reads.Post κs args c.handed exit
  pub seen : exit.1.1.1.0.now ≡ c.left

-- the call of many seconds was handed st, r and the call's inputs and rows, and gave what the call has
pub record ManyBy (st : Station) (r : Run) (m : ManyCall) : Type 0 where
  pub κs : Lfts 2
  pub args : kinds.Dens κs seconds.Kinds.ps
  pub exit : clauses.AtExit (kinds.ended_of 2 seconds.Kinds.ps seconds.Kinds.r) κs
  pub passed : (args.0 ≡ st) × (args.1.0 ≡ r) × (args.1.1.0.now ≡ m.inputs) × (args.1.1.1.0.now ≡ m.lent)
  pub returned : seconds.Reads.Post κs args m.worked exit
  pub seen : exit.1.1.1.0.now ≡ m.left

-- "whatever load, solar and sheddable load each hands in": none of the functions asks anything of its caller
pub record AskNothing : Type 0 where
  pub read-asks : (κs : Lfts 1) (args : kinds.Dens κs read.Kinds.ps) → read.Reads.Pre κs args
  pub start-asks : (κs : Lfts 0) (args : kinds.Dens κs start.Kinds.ps) → start.Reads.Pre κs args
  pub second-asks : (κs : Lfts 1) (args : kinds.Dens κs second.Kinds.ps) → second.Reads.Pre κs args
  pub seconds-asks : (κs : Lfts 2) (args : kinds.Dens κs seconds.Kinds.ps) → seconds.Reads.Pre κs args
