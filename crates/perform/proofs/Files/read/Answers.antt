-- What `read` fills lies within the part that was asked for, and the buffer outside that part is as it was.
use Rattle.std.proofs.Common.{rules}
use Rattle.perform.proofs.Parts.{outside}
use Rattle.perform.proofs.Files.read.Goals as goal

pub returns-in-Ok-eq0 : goal.returns-in-Ok-eq0
returns-in-Ok-eq0 g c = (tt, outside c.args.from c.args.to c.min-end.result c.args.buf.now c.read_part.new.part c.min-end.ensures (search rules) (search rules))

pub returns-in-Ok : goal.returns-in-Ok
returns-in-Ok g c = (search rules, outside c.args.from c.args.to c.min-end.result c.args.buf.now c.read_part.new.part c.min-end.ensures (search rules) (search rules))

pub returns-in-Err : goal.returns-in-Err
returns-in-Err g c = (tt, outside c.args.from c.args.to c.min-end.result c.args.buf.now c.read_part.new.part c.min-end.ensures (search rules) (search rules))
