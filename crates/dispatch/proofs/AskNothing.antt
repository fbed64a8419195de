-- "whatever load, solar and sheddable load each hands in": neither call of this crate asks anything of its caller. Assumes nothing.
use borrow.Fn.Kinds as kinds
use contract.Lifetimes.{Lfts}
use Rattle.dispatch.proofs.second.second.Reads as second_reads
use Rattle.dispatch.proofs.second.second.Kinds as second-kinds
use Rattle.dispatch.proofs.seconds.seconds.Reads as seconds-reads
use Rattle.dispatch.proofs.seconds.seconds.Kinds as seconds-kinds

pub second-asks : (κs : Lfts 1) (args : kinds.Dens κs second-kinds.ps) → second_reads.Pre κs args
second-asks κs args = tt

pub seconds-asks : (κs : Lfts 2) (args : kinds.Dens κs seconds-kinds.ps) → seconds-reads.Pre κs args
seconds-asks κs args = tt
