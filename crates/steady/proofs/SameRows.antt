-- THE THEOREM of the pass: whatever both are handed, `steady::seconds::seconds` gives the record, the count, the end and the rows that
-- `dispatch::seconds::seconds` gives, which works each second by its eleven steps. Of either no more is known than its own contract
-- says. So the pass can be switched off, and nobody would see it by an answer. Assumes nothing.
use Prim.Native.Nat.{ℕ}
use mathlib.Core.Path.{◌≡◌, sym, ap, ◌∙◌}
use mathlib.Core.List.{List}
use borrow.Fn.Kinds as kinds
use contract.Lifetimes.{Lfts}
use denote.Triple.Clauses as clauses
use Rattle.rules.specs.declared.answers.Ended.{Ended}
use Rattle.rules.specs.declared.run.Run.{Run}
use Rattle.rules.specs.declared.run.Worked.{Worked}
use Rattle.rules.specs.declared.station.Station.{Station}
use Rattle.rules.specs.Seconds.{Seconds}
use Rattle.dispatch.proofs.seconds.seconds.Reads as plain-reads
use Rattle.dispatch.proofs.seconds.seconds.Kinds as plain-kinds
use Rattle.steady.proofs.seconds.seconds.Reads as pass-reads
use Rattle.steady.proofs.seconds.seconds.Kinds as pass-kinds

-- what a call owes leaves no choice
one_answer : {st : Station} {r : Run} {inputs lent : List ℕ} {w v : Worked} {left rest : List ℕ} → Seconds st r inputs lent w left → Seconds st r inputs lent v rest → (w ≡ v) × (left ≡ rest)
one_answer {w = w} {v = v} a b = (
  ap (λ (z : Run). record { run = z; seconds = w.seconds; ended = w.ended }) (a.hands ∙ sym b.hands)
      ∙ ap (λ (n : ℕ). record { run = v.run; seconds = n; ended = w.ended }) (a.counts ∙ sym b.counts)
      ∙ ap (λ (e : Ended). record { run = v.run; seconds = v.seconds; ended = e }) (a.ends ∙ sym b.ends),
  a.leaves ∙ sym b.leaves,
)

-- what the pass was handed, and gave
pub record PassBy (st : Station) (r : Run) (inputs lent : List ℕ) (w : Worked) (left : List ℕ) : Type 0 where
  pub κs : Lfts 2
  pub args : kinds.Dens κs pass-kinds.ps
  pub exit : clauses.AtExit (kinds.ended_of 2 pass-kinds.ps pass-kinds.r) κs
  pub passed : (args.0 ≡ st) × (args.1.0 ≡ r) × (args.1.1.0.now ≡ inputs) × (args.1.1.1.0.now ≡ lent)
  pub returned : pass-reads.Post κs args w exit
  pub seen : exit.1.1.1.0.now ≡ left

-- and what the plain call was handed, and gave
pub record PlainBy (st : Station) (r : Run) (inputs lent : List ℕ) (w : Worked) (left : List ℕ) : Type 0 where
  pub κs : Lfts 2
  pub args : kinds.Dens κs plain-kinds.ps
  pub exit : clauses.AtExit (kinds.ended_of 2 plain-kinds.ps plain-kinds.r) κs
  pub passed : (args.0 ≡ st) × (args.1.0 ≡ r) × (args.1.1.0.now ≡ inputs) × (args.1.1.1.0.now ≡ lent)
  pub returned : plain-reads.Post κs args w exit
  pub seen : exit.1.1.1.0.now ≡ left

pass-owes : {st : Station} {r : Run} {inputs lent : List ℕ} {w : Worked} {left : List ℕ} → PassBy st r inputs lent w left → Seconds st r inputs lent w left
pass-owes {w = w} e =
    let p : Seconds e.args.0 e.args.1.0 e.args.1.1.0.now e.args.1.1.1.0.now w e.exit.1.1.1.0.now = e.returned in
    rw (e.passed.0, e.passed.1, e.passed.2, e.passed.3, e.seen) at p

plain-owes : {st : Station} {r : Run} {inputs lent : List ℕ} {w : Worked} {left : List ℕ} → PlainBy st r inputs lent w left → Seconds st r inputs lent w left
plain-owes {w = w} e =
    let p : Seconds e.args.0 e.args.1.0 e.args.1.1.0.now e.args.1.1.1.0.now w e.exit.1.1.1.0.now = e.returned in
    rw (e.passed.0, e.passed.1, e.passed.2, e.passed.3, e.seen) at p

pub same_rows : {st : Station} {r : Run} {inputs lent : List ℕ} {w v : Worked} {left rest : List ℕ} → PassBy st r inputs lent w left → PlainBy st r inputs lent v rest → (w ≡ v) × (left ≡ rest)
same_rows a b = one_answer (pass-owes a) (plain-owes b)
