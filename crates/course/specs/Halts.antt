-- What a call of a run's course ends for, by what its seconds came to.
use Rattle.rules.specs.declared.answers.Ended.{Ended}
use Rattle.course.specs.declared.state.Halt.{Halt}

-- it goes on after seconds that were all worked
abbrev pub halt_for : Ended → Halt
halt_for Ended.AllWorked = Halt.Further
halt_for Ended.NoRoom = Halt.Further
halt_for Ended.BeforeRefused = Halt.Broken
