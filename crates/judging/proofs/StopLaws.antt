-- A reading stops for a reason; and what a read leaves is less. Assumes nothing.
use Prim.Native.Nat.{ℕ, ◌+◌, ◌≤◌, ◌<◌, min}
use mathlib.Core.Path.{◌≡◌, sym, ap, ◌∙◌, subst}
use mathlib.Core.Bool.{false}
use mathlib.Core.List.{List, ◌++◌}
use native.Mathlib.Omega.{arith}
use lib.ListN.{length, take, drop, length-take, length-append}
use Rattle.exchange.specs.declared.action.Action.{Action}
use Rattle.exchange.specs.declared.action.Why.{Why}
use Rattle.exchange.specs.declared.event.Event.{Event}
use Rattle.exchange.specs.Existing.{is_failed}
use Rattle.exchange.specs.World.{World, buffer_end, Fits, after}
use Rattle.exchange.proofs.Expected.{is_expected, unexpected, read-within}
use Rattle.judging.specs.declared.state.JudgeStage.{JudgeStage}
use Rattle.judging.specs.declared.state.Held.{Held}
use Rattle.judging.specs.Stages.{Judging}
use Rattle.judging.specs.Stages.{judge_asks, stopping}
use Rattle.judging.specs.Holds.{Files, judge_steps_at, Nearer, JudgesFrom}

-- what is left after some bytes were read is less
pub less-left : (n : ℕ) (buf left : List ℕ) → 0 < n → n ≤ length buf → left ≡ take n buf ++ drop n left → length (drop n left) < length left
less-left n buf left some fits is =
    let size : length left ≡ length (take n buf) + length (drop n left) = ap length is ∙ length-append (take n buf) (drop n left) in
    let taken : length (take n buf) ≡ min n (length buf) = length-take n buf in
    omega (arith, size, taken, some, fits)

-- a step is left at each stage that waits for an event
some_left : (stage : JudgeStage) (g : Files) (e : Event) (w : World) (before buf : List ℕ) → Fits (judge_asks stage) e w before buf → 0 < judge_steps_at stage g w
some_left JudgeStage.OpenStation g e w before buf f = omega arith
some_left JudgeStage.ReadStation g e w before buf f = omega arith
some_left JudgeStage.OpenSamples g e w before buf f = omega arith
some_left JudgeStage.ToStart g e w before buf f = omega arith
some_left JudgeStage.ReadSamples g e w before buf f = omega arith
some_left JudgeStage.Judged g e w before buf f = absurd f
some_left (JudgeStage.Stopped why) g e w before buf f = absurd f

-- a reading may stop for a reason
pub stop-because : (stage : JudgeStage) (h : Held) (e : Event) (buf : List ℕ) (why : Why) (r : Judging) → r ≡ stopping h why
    → ((w : World) (before : List ℕ) → Fits (judge_asks stage) e w before buf → is_failed e ≡ false → ⊥) → JudgesFrom stage h e buf r
unfolding JudgesFrom
stop-because stage h e buf why r is reason g w before out some o f =
    subst (λ (p : Judging). Nearer g p (after (judge_asks stage) e some w out) (judge_steps_at stage g w) (is_failed e ≡ false)) (sym is)
    (tt, some_left stage g e w before buf f, λ ok. absurd (reason w before f ok))

-- an event that is no answer to what was asked for is one, and a failure is
pub stop-steps : (stage : JudgeStage) (h : Held) (e e' : Event) (buf : List ℕ) (why : Why) (r : Judging) → r ≡ stopping h why → e ≡ e' → is_expected (judge_asks stage) e' ≡ false → JudgesFrom stage h e buf r
stop-steps stage h e e' buf why r is same un = stop-because stage h e buf why r is (λ w before f ok. unexpected (judge_asks stage) e e' w before buf same un f ok)

-- and so is a read of more bytes than the buffer holds
pub short-stop : (stage : JudgeStage) (k : ℕ) (h : Held) (e : Event) (n : ℕ) (buf : List ℕ) (why : Why) (r : Judging) → judge_asks stage ≡ Action.Read k 0 buffer_end → r ≡ stopping h why → e ≡ Event.Read n → length buf < n
    → JudgesFrom stage h e buf r
short-stop stage k h e n buf why r asks is same less =
    stop-because stage h e buf why r is
    (λ w before f ok. let within = read-within k 0 buffer_end n e w before buf same (subst (λ (a : Action). Fits a e w before buf) asks f) in omega (arith, within, less))

-- ---- from an event or a stage that is known

pub at-event : (stage : JudgeStage) (h : Held) (e e' : Event) (buf : List ℕ) (r : Judging) → e ≡ e' → JudgesFrom stage h e' buf r → JudgesFrom stage h e buf r
at-event stage h e e' buf r is k = subst (λ (x : Event). JudgesFrom stage h x buf r) (sym is) k

pub at_stage : (stage stage' : JudgeStage) (h : Held) (e : Event) (buf : List ℕ) (r : Judging) → stage ≡ stage' → JudgesFrom stage' h e buf r → JudgesFrom stage h e buf r
at_stage stage stage' h e buf r is k = subst (λ (x : JudgeStage). JudgesFrom x h e buf r) (sym is) k
