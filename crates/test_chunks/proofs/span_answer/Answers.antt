-- `test_chunks::span_answer` meets its contract. Assumes nothing.

use Rattle.test_chunks.proofs.span_answer.Goals as goal

pub returns-in-Ok : goal.returns-in-Ok
returns-in-Ok c = rw c.in-Ok.is

pub returns-in-Err : goal.returns-in-Err
returns-in-Err c = rw c.in-Err.is (λ i. record { number = c.from-told.ensures.0 i; place = c.from-told.ensures.1 i; rows = 0; last = 0 })
