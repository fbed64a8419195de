-- THE THEOREMS of the station file in chunks, of the functions themselves: of every list of chunks, empty ones included, the station
-- bytes that are begun and fed come to what document 01 answers on the chunks joined.
-- All that is known of a call is what the function's own contract ensures. Assumes nothing.
use Prim.Native.Nat.{ℕ}
use mathlib.Core.Path.{◌≡◌, refl, sym, ap, ◌∙◌}
use mathlib.Core.Bool.{Bool}
use mathlib.Core.List.{List, [], ◌++◌, append-nil, append_assoc}
use borrow.Fn.Kinds as kinds
use contract.Lifetimes.{Lfts}
use denote.Triple.Clauses as clauses
use Rattle.rules.specs.StationFile.{station_file}
use Rattle.station.specs.declared.chunks.StationBytes.{StationBytes}
use Rattle.station.specs.Stations.{station_with, is_refused}
use Rattle.rules.specs.Chunks.{joined, Feeds}
use Rattle.station.proofs.chunks.station_bytes.Reads as station-bytes-reads
use Rattle.station.proofs.chunks.station_bytes.Kinds as station-bytes-kinds
use Rattle.station.proofs.chunks.more_station.Reads as more-station-reads
use Rattle.station.proofs.chunks.more_station.Kinds as more-station-kinds
use Rattle.station.proofs.chunks.is_station_refused.Reads as is-station-refused-reads
use Rattle.station.proofs.chunks.is_station_refused.Kinds as is-station-refused-kinds

-- ---- calls of which only what their contracts ensure is known

-- `station_bytes` gave f
pub record Begun (f : StationBytes) : Type 0 where
  pub κs : Lfts 0
  pub args : kinds.Dens κs station-bytes-kinds.ps
  pub exit : clauses.AtExit (kinds.ended_of 0 station-bytes-kinds.ps station-bytes-kinds.r) κs
  pub returned : station-bytes-reads.Post κs args f exit

-- `more_station` was handed f and the chunk, and gave g
pub record Fed (f : StationBytes) (chunk : List ℕ) (g : StationBytes) : Type 0 where
  pub κs : Lfts 1
  pub args : kinds.Dens κs more-station-kinds.ps
  pub exit : clauses.AtExit (kinds.ended_of 1 more-station-kinds.ps more-station-kinds.r) κs
  pub passed : (args.0 ≡ f) × (args.1.0.now ≡ chunk)
  pub returned : more-station-reads.Post κs args g exit

-- `is_station_refused` was handed f, and answered b
pub record AnsweredRefused (f : StationBytes) (b : Bool) : Type 0 where
  pub κs : Lfts 0
  pub args : kinds.Dens κs is-station-refused-kinds.ps
  pub exit : clauses.AtExit (kinds.ended_of 0 is-station-refused-kinds.ps is-station-refused-kinds.r) κs
  pub passed : args.0 ≡ f
  pub returned : is-station-refused-reads.Post κs args b exit

-- ---- what each owes

-- what a call of `more_station` owes, in its contract's words
abbrev FedRight : StationBytes → List ℕ → StationBytes → Type 0
FedRight f chunk g = (rest : List ℕ) → station_with f (chunk ++ rest) ≡ station_with g rest

fed-owes : {f g : StationBytes} {chunk : List ℕ} → Fed f chunk g → FedRight f chunk g
fed-owes {f} {g} {chunk} a =
    let p : (rest : List ℕ) → station_with a.args.0 (a.args.1.0.now ++ rest) ≡ station_with g rest = a.returned in
    λ rest. rw (a.passed.0, a.passed.1) at (p rest)

-- whatever follows the chunks
feeds-right : {f last : StationBytes} {chunks : List (List ℕ)} → Feeds Fed f chunks last → (rest : List ℕ) → station_with f (joined chunks ++ rest) ≡ station_with last rest
unfolding joined
feeds-right Feeds.none rest = refl
feeds-right {f} (Feeds.more {chunk = chunk} {chunks = chunks} one others) rest =
    ap (station_with f) (append_assoc chunk (joined chunks) rest) ∙ fed-owes one (joined chunks ++ rest) ∙ feeds-right others rest

-- ---- THE STATION FILE, over every list of chunks

-- whatever is still to arrive
pub station-with-chunks : (chunks : List (List ℕ)) (first last : StationBytes) (rest : List ℕ) → Begun first → Feeds Fed first chunks last
    → station_with last rest ≡ station_file (joined chunks ++ rest)
station-with-chunks chunks first last rest b f =
    let q : (rest : List ℕ) → station_with first rest ≡ station_file rest = b.returned in
    sym (feeds-right f rest) ∙ q (joined chunks ++ rest)

-- at the end of the file
pub station-of-chunks : (chunks : List (List ℕ)) (first last : StationBytes) → Begun first → Feeds Fed first chunks last
    → station_with last [] ≡ station_file (joined chunks)
station-of-chunks chunks first last b f = station-with-chunks chunks first last [] b f ∙ ap station_file (append-nil (joined chunks))

-- the file is told to be refused where document 01 refuses it
pub refused-of-chunks : (chunks : List (List ℕ)) (first last : StationBytes) (b : Bool) → Begun first → Feeds Fed first chunks last → AnsweredRefused last b
    → b ≡ is_refused (station_file (joined chunks))
refused-of-chunks chunks first last b g f t =
    let p : b ≡ is_refused (station_with t.args.0 []) = t.returned in
    p ∙ ap (λ (s : StationBytes). is_refused (station_with s [])) t.passed ∙ ap is_refused (station-of-chunks chunks first last g f)
