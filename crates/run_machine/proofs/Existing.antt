-- SUCH LISTS OF EVENTS EXIST: where `next` answers whatever its types can hold, the program comes to its stop from every world of bytes that
-- starts so and with all lent buffers, at a system at which nothing fails that need not. So the theorem of proofs/Program.antt is about some
-- list, whatever the files are. Assumes nothing.
use Prim.Native.Nat.{ℕ}
use mathlib.Core.List.{List, [], ◌∷◌}
use native.Mathlib.Omega.{arith}
use borrow.Fn.Kinds as kinds
use contract.Lifetimes.{Lfts}
use denote.Laws.{Is}
use denote.Struct.Declared.{row}
use denote.Struct.Laws.{val}
use Rattle.rules.specs.Bytes.{AreBytes, SliceHeld}
use Rattle.exchange.specs.declared.event.Event.{Event}
use Rattle.exchange.specs.World.{World}
use Rattle.exchange.specs.Existing.{WorldHeld, EventHeld, Answered, Lists}
use Rattle.exchange.proofs.ExistLaws.{such-lists}
use Rattle.exchange.proofs.EventHeld.{event-of-held, held-of-event}
use Rattle.run_stages.specs.Stages.{Machine, asks_of}
use Rattle.run_stages.specs.Given.{Given}
use Rattle.run_stages.specs.Holds.{Holds, steps_left}
use Rattle.run_machine.specs.Steps.{Steps, Starting, Opens}
use Rattle.run_machine.proofs.Program.{Opened, Stepped, open-owes, step-owes}
use Rattle.exchange.specs.contracts.machine.Machine as machine
use Rattle.exchange.proofs.machine.Machine.TheLaws as machine-laws
use Rattle.run_stages.specs.contracts.state.Stage as stage
use Rattle.run_stages.specs.contracts.state.Held as held
use Rattle.run_stages.proofs.state.Stage.TheLaws as stage-laws
use Rattle.run_stages.proofs.state.Held.TheLaws as held-laws
use Rattle.run_machine.proofs.next.begin.Kinds as begin-kinds
use Rattle.run_machine.proofs.next.next.Kinds as next-kinds

-- a state that machine values of its type mean
abbrev pub MachineHeld : Machine → Type 0
MachineHeld m =
    let type = machine.the_type stage.the_row held.the_row in
    let laws = machine-laws.the_laws stage.the_row held.the_row stage-laws.the_row_laws held-laws.the_row_laws stage-laws.the_told held-laws.the_told in
    Is (row type) m (val type laws m ∷ [])

-- what the types of `next` can hold is what the logic knows of its arguments, with slices of bytes
pub held-of-good : (κs : Lfts 2) (args : kinds.Dens κs next-kinds.ps) → kinds.GoodsP κs next-kinds.ps args → AreBytes args.1.1.0.now → AreBytes args.1.1.1.0.now
    → MachineHeld args.0 × EventHeld args.1.0 × SliceHeld args.1.1.0.now × SliceHeld args.1.1.1.0.now
held-of-good κs args good buf out = (
  good.0,
  held-of-event args.1.0 _ good.1.0,
  record { few = omega (arith, good.1.1.0.1); are = buf },
  record { few = omega (arith, good.1.1.1.0.1); are = out },
)

pub good-of-held : (κs : Lfts 2) (args : kinds.Dens κs next-kinds.ps) → MachineHeld args.0 → EventHeld args.1.0 → SliceHeld args.1.1.0.now → SliceHeld args.1.1.1.0.now → kinds.GoodsP κs next-kinds.ps args
good-of-held κs args machine event buf out =
    (machine, (event-of-held args.1.0 event, ((omega (arith, buf.few), omega (arith, buf.few)), ((omega (arith, out.few), omega (arith, out.few)), tt))))

-- a caller is told of the state that `begin` and `next` hand back that machine values of its type mean it
pub machine-of-begin : (κs : Lfts 0) (m : Machine) → (begin-kinds.r).is.Ok κs m → MachineHeld m
machine-of-begin κs m h = h

pub machine-of-next : (κs : Lfts 2) (m : Machine) → (next-kinds.r).is.Ok κs m → MachineHeld m
machine-of-next κs m h = h

-- ---- THE THEOREM

pub run-exists : ((m : Machine) (e : Event) (buf out : List ℕ) → MachineHeld m → EventHeld e → SliceHeld buf → SliceHeld out → Answered Stepped MachineHeld m e buf out)
    → (first : Machine) (g : Given) (start : World) (buf out : List ℕ) → Opened first → MachineHeld first → Starting g start → WorldHeld start → SliceHeld buf → SliceHeld out
    → Lists asks_of Stepped first start buf out
unfolding Steps Opens
run-exists answers first g start buf out o held s world slice lent =
    such-lists asks_of Stepped (Holds g) (steps_left g) (λ m e w before buf out some r out' k fits one. (((step-owes one).1 g w before some k fits).0, ((step-owes one).1 g w before some k fits).1)) MachineHeld answers first start buf out
    held world slice lent (open-owes o g start buf out s).0
