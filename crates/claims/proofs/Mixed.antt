-- THE THEOREM of demand 3 of lists in which calls of one second and of many are mixed, of the functions themselves. All that is known of a
-- call is what the function's own contract says. Assumes nothing.
use Rattle.std.specs.Prelude.{Ok}
use Prim.Native.Nat.{ℕ}
use mathlib.Core.Path.{◌≡◌}
use mathlib.Core.List.{List}
use Rattle.rules.specs.declared.station.Station.{Station}
use Rattle.rules.specs.declared.run.Run.{Run}
use Rattle.rules.specs.RunRecord.{start_record}
use Rattle.rules.specs.Seconds.{Seconds}
use Rattle.records.specs.declared.start.Started.{Started}
use Rattle.claims_rules.specs.Batches.{one, many, ManyCall, Batch, ChainedBatches, none, more, ClaimBatches}
use Rattle.claims_rules.proofs.Batches.{OwesMany, OwesBatch, claim-batches}
use Rattle.claims.specs.Functions.{ReadBy, StartedBy, ManyBy}
use Rattle.claims.specs.Demand3.{FromFile}
use Rattle.claims.specs.Mixed.{BatchBy, MixedDemand3}
use Rattle.claims.proofs.AskNothing.{ask-nothing}
use Rattle.claims.proofs.FromFile.{owes, Begun, begun}
use Rattle.claims.proofs.MixedExists.{mixed-exists}

-- ---- each call owes what the rules say

many-owes : (st : Station) (r : Run) (m : ManyCall) → ManyBy st r m → OwesMany st r m
many-owes st r m e =
    let p : Seconds e.args.0 e.args.1.0 e.args.1.1.0.now e.args.1.1.1.0.now m.worked e.exit.1.1.1.0.now = e.returned in
    rw (e.passed.0, e.passed.1, e.passed.2, e.passed.3, e.seen) at p

batch-owes : (st : Station) (r : Run) (b : Batch) → BatchBy st r b → OwesBatch st r b
batch-owes st r (one c) e = owes st r c e
batch-owes st r (many m) e = many-owes st r m e

batches-owe : (st : Station) {r last : Run} {bs : List Batch} → ChainedBatches (BatchBy st) r bs last → ChainedBatches (OwesBatch st) r bs last
batches-owe st none = none
batches-owe st (more {r = r} {b = b} o rest) = more (batch-owes st r b o) (batches-owe st rest)

-- ---- the theorem

every-list : (file : List ℕ) (st : Station) (s : Started) (bs : List Batch) (last : Run)
    → ReadBy file (Ok st) → StartedBy st s → ChainedBatches (BatchBy st) s.run bs last
    → FromFile file st s × ClaimBatches st s.run bs last
every-list file st s bs last read starts chained =
    let b : Begun file st s = begun file st s read starts in
    let first : s.run ≡ start_record st = b.from-file.record-started in
    let owed : ChainedBatches (OwesBatch st) s.run bs last = batches-owe st chained in
    (b.from-file, rw first (claim-batches st b.given b.tables bs last (rw first at owed)))

pub mixed-demand-3 : MixedDemand3
mixed-demand-3 = record { any-arguments = ask-nothing; every-list = every-list; lists-exist = mixed-exists }
