-- SUCH LISTS EXIST: at a system at which nothing fails that need not, a program whose step answers whatever its types can hold, and comes
-- nearer to its stop at each event, comes to its stop; for every world of bytes and all lent buffers. Assumes nothing.
use Prim.Native.Nat.{ℕ, zero, suc, ◌+◌, ◌-◌, ◌≤◌, ◌<◌, min}
use mathlib.Core.Path.{◌≡◌, refl, sym, ap, ◌∙◌}
use mathlib.Core.Bool.{Bool, true, false}
use mathlib.Core.List.{List, [], ◌∷◌}
use native.Mathlib.Omega.{arith}
use native.Mathlib.Decide.{dec_le}
use lib.Dec.{eqb}
use lib.ListN.{length, take, drop}
use Rattle.rules.specs.Bytes.{AreBytes, SliceHeld}
use Rattle.rules.proofs.Tables.{take-least}
use Rattle.exchange.specs.declared.action.Action.{Action}
use Rattle.exchange.specs.declared.action.Word.{Word}
use Rattle.exchange.specs.declared.event.Event.{Event}
use Rattle.exchange.specs.World.{World, left_in, again_in, left_of, again_of, one_of, with_file, Outside, Fits, after}
use Rattle.exchange.specs.Events.{Events}
use Rattle.exchange.specs.Existing.{AllBytes, WorldHeld, EventHeld, Answered, Well, WellEvents, Lists}
use Rattle.exchange.proofs.BufferLaws.{drop-bytes, put, put-size, put-ahead, put-part, put-behind, put-bytes, part-then-rest}

-- ---- they are lists of events

pub well-events : {P : Type 0} {asks : P → Action} {One : P → Event → List ℕ → List ℕ → P → List ℕ → Type 0} {n : ℕ} {p last : P} {w end : World} {buf out : List ℕ}
    → WellEvents asks One n p w buf out last end → Events asks One n p w buf out last end
well-events WellEvents.none = Events.none
well-events (WellEvents.more e some buf q out' well fits one rest) = Events.more e some buf q out' fits one (well-events rest)

-- ---- a world stays one of bytes

left-bytes : (files : List (List ℕ)) → AllBytes files → AreBytes (left_in files)
left-bytes [] h = tt
left-bytes (left ∷ again) h = h.0

again-bytes : (files : List (List ℕ)) → AllBytes files → AllBytes (again_in files)
again-bytes [] h = tt
again-bytes (left ∷ again) h = h.1

one-bytes : (b : Bool) (this other : List (List ℕ)) → AllBytes this → AllBytes other → AllBytes (one_of b this other)
one-bytes true this other h k = h
one-bytes false this other h k = k

file-held : (w : World) (k : ℕ) (file : List (List ℕ)) → WorldHeld w → AllBytes file → WorldHeld (with_file w k file)
file-held w k file h f = record { files = λ j. one-bytes (eqb j k) file (w.files j) f (h.files j); arguments = h.arguments; count = h.count }

-- ---- an event for every action that is no stop

-- what comes of the action, and what is then known of the buffer and of the world
record Fitting (a : Action) (w : World) (before : List ℕ) : Type 0 where
  event : Event
  buf : List ℕ
  fits : Fits a event w before buf
  well : Well a event before
  held : EventHeld event
  size : length buf ≡ length before
  are : AreBytes buf
  world : (some : ℕ) (out : List ℕ) → WorldHeld (after a event some w out)

data Next (a : Action) (w : World) (before : List ℕ) : Type 0 where
  stop : (word : Word) → a ≡ Action.Stop word → Next a w before
  go : Fitting a w before → Next a w before

module _ (w : World) (before : List ℕ) (world : WorldHeld w) (slice : SliceHeld before) where
  -- an event that leaves the buffer as it was
  leaves : (a : Action) (e : Event) → Fits a e w before before → Well a e before → EventHeld e → ((some : ℕ) (out : List ℕ) → WorldHeld (after a e some w out)) → Fitting a w before
  leaves a e fits well held then = record { event = e; buf = before; fits = fits; well = well; held = held; size = refl; are = slice.are; world = then }

  -- as many of the argument's bytes as the buffer holds, at its start
  argument : (k : ℕ) → Fitting (Action.Argument k) w before
  argument k =
      let bytes = w.arguments k in
      let n = min (length before) (length bytes) in
      let there : n ≤ length bytes = omega arith in
      let room : 0 + n ≤ length before = omega arith in
      let size : length (put 0 n bytes before) ≡ length before = put-size 0 n bytes before there room in
      record {
        event = Event.Read n;
        buf = put 0 n bytes before;
        fits = ((omega (arith, size), put-part 0 n bytes before there room ∙ take-least (length before) bytes ∙ ap (λ (m : ℕ). take m bytes) (sym size)), size);
        well = tt;
        held = omega (arith, slice.few);
        size = size;
        are = put-bytes 0 n bytes before there room (world.arguments k) slice.are;
        world = λ some out. world;
      }

  -- the file's next bytes, as many as there are and the part holds
  reads : (k from to : ℕ) → 0 < length (left_of w k) → from < min to (length before) → Fitting (Action.Read k from to) w before
  reads k from to some_left part =
      let bytes = left_of w k in
      let n = min (length bytes) (min to (length before) - from) in
      let there : n ≤ length bytes = omega arith in
      let within : from + n ≤ min to (length before) = omega (arith, part) in
      let room : from + n ≤ length before = omega (arith, within) in
      let size : length (put from n bytes before) ≡ length before = put-size from n bytes before there room in
      record {
        event = Event.Read n;
        buf = put from n bytes before;
        fits = (
          (omega (arith, some_left, part), omega (arith, within, size), part-then-rest n bytes (take n (drop from (put from n bytes before))) (put-part from n bytes before there room)),
          record { size = size; ahead = put-ahead from n bytes before there room; behind = put-behind from n bytes before there room to (omega (arith, within)) },
        );
        well = tt;
        held = omega (arith, room, slice.few);
        size = size;
        are = put-bytes from n bytes before there room (left-bytes (w.files k) (world.files k)) slice.are;
        world = λ some out. file-held w k (drop n bytes ∷ again_of w k) world (drop-bytes n bytes (left-bytes (w.files k) (world.files k)), again-bytes (w.files k) (world.files k));
      }

  same : (from to : ℕ) → Outside from to before before
  same from to = record { size = refl; ahead = refl; behind = refl }

  read : (k from to : ℕ) (left : List ℕ) → left_of w k ≡ left → Dec (min to (length before) ≤ from) → Fitting (Action.Read k from to) w before
  read k from to [] e d = leaves (Action.Read k from to) Event.End (e, same from to) tt tt (λ some out. world)
  read k from to (b ∷ left) e (yes empty) = leaves (Action.Read k from to) Event.Failed (tt, same from to) empty tt (λ some out. world)
  read k from to (b ∷ left) e (no part) =
      let size : length (left_of w k) ≡ suc (length left) = ap length e in
      reads k from to (omega (arith, size)) (omega (arith, part))

  fitting : (a : Action) → Next a w before
  fitting Action.Count = Next.go (leaves Action.Count (Event.Count w.count) (refl, refl) tt world.count (λ some out. world))
  fitting (Action.Argument k) = Next.go (argument k)
  fitting (Action.Open k) = Next.go (leaves (Action.Open k) Event.Done (tt, refl) tt tt (λ some out. world))
  fitting (Action.Read k from to) = Next.go (read k from to (left_of w k) refl (dec_le (min to (length before)) from))
  fitting (Action.Rewind k) =
      Next.go (leaves (Action.Rewind k) Event.Done (tt, refl) tt tt (λ some out. file-held w k (again_of w k) world (again-bytes (w.files k) (world.files k))))
  fitting (Action.Write n) =
      Next.go (leaves (Action.Write n) Event.Done (tt, refl) tt tt (λ some out. record { files = world.files; arguments = world.arguments; count = world.count }))
  fitting (Action.Stop word) = Next.stop word refl

-- ---- one after the other, up to the stop: `Holds`, `left` and `keeps` as in EventLaws, and a step that answers whatever its types can hold

module _ {P : Type 0} (asks : P → Action) (One : P → Event → List ℕ → List ℕ → P → List ℕ → Type 0) (Holds : P → World → List ℕ → List ℕ → Type 0) (left : P → World → ℕ)
    (keeps : (p : P) (e : Event) (w : World) (before buf out : List ℕ) (some : ℕ) (q : P) (out' : List ℕ) → Holds p w before out → Fits (asks p) e w before buf → One p e buf out q out'
    → Holds q (after (asks p) e some w out) buf out' × (left q (after (asks p) e some w out) < left p w))
    (StateHeld : P → Type 0)
    (answers : (p : P) (e : Event) (buf out : List ℕ) → StateHeld p → EventHeld e → SliceHeld buf → SliceHeld out → Answered One StateHeld p e buf out) where
  -- from every state with fewer steps left than `most`
  abbrev Within : ℕ → Type 0
  Within most =
      (p : P) (w : World) (before out : List ℕ) → StateHeld p → WorldHeld w → SliceHeld before → SliceHeld out → Holds p w before out → left p w < most → Lists asks One p w before out

  by_next : (most : ℕ) → Within most → (p : P) (w : World) (before out : List ℕ) → StateHeld p → SliceHeld before → SliceHeld out → Holds p w before out → left p w < suc most
      → Next (asks p) w before → Lists asks One p w before out
  by_next most within p w before out state slice lent k near (Next.stop word e) = record { count = 0; last = p; end = w; well = WellEvents.none; word = word; stops = e }
  by_next most within p w before out state slice lent k near (Next.go f) =
      let buf-held : SliceHeld f.buf = record { few = omega (arith, f.size, slice.few); are = f.are } in
      let a = answers p f.event f.buf out state f.held buf-held lent in
      let left-held : SliceHeld a.left = record { few = omega (arith, a.size, lent.few); are = a.are } in
      let s = keeps p f.event w before f.buf out 0 a.state a.left k f.fits a.one in
      let nearer = s.1 in
      let rest = within a.state (after (asks p) f.event 0 w out) f.buf a.left a.held (f.world 0 out) buf-held left-held s.0 (omega (arith, nearer, near)) in
      record {
        count = suc rest.count;
        last = rest.last;
        end = rest.end;
        well = WellEvents.more {n = rest.count} {last = rest.last} {end = rest.end} f.event 0 f.buf a.state a.left f.well f.fits a.one rest.well;
        word = rest.word;
        stops = rest.stops;
      }

  lists-within : (most : ℕ) → Within most
  lists-within zero p w before out state world slice lent k near = absurd (omega (arith, near))
  lists-within (suc most) p w before out state world slice lent k near =
      by_next most (lists-within most) p w before out state slice lent k near (fitting w before world slice (asks p))

  -- ---- THE THEOREM

  pub such-lists : (p : P) (w : World) (before out : List ℕ) → StateHeld p → WorldHeld w → SliceHeld before → SliceHeld out → Holds p w before out → Lists asks One p w before out
  such-lists p w before out state world slice lent k = lists-within (suc (left p w)) p w before out state world slice lent k (omega arith)
