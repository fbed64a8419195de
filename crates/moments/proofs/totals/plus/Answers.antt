-- `moments::totals::plus` meets its contract. Assumes nothing.

use Rattle.moments.proofs.totals.plus.Goals as goal

pub returns : goal.returns
returns c =
    rw (c.more.ensures, c.more-2.ensures, c.more-3.ensures, c.more-4.ensures, c.more-5.ensures, c.more-6.ensures, c.more-7.ensures, c.more-8.ensures, c.more-9.ensures)
