-- `sheet_stages::stage::after_later` meets its contract. Assumes nothing.
use borrow.Author.Tests.{lt-ltb, le-ltb}
use Rattle.sheet_stages.proofs.stage.after_later.Goals as goal

pub returns-then-last-sample : goal.returns-then-last-sample
returns-then-last-sample c = rw (c.in-Ok.is, lt-ltb _ _ c.if-last-sample.true)

pub returns-else-last-sample : goal.returns-else-last-sample
returns-else-last-sample c = rw (c.in-Ok.is, le-ltb _ _ c.if-last-sample.false) c.waiting.ensures

pub returns-in-Err : goal.returns-in-Err
returns-in-Err c = rw c.in-Err.is c.waiting-in-Err.ensures
