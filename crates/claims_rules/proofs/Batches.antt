-- THE CLAIM of every list of batches from the start of a station that some file gives, each of which owes what the rules say. Assumes
-- nothing.
use Prim.Native.Nat.{ℕ, zero, suc, ◌+◌, ◌*◌, ◌/◌, ◌≤◌, ◌<◌}
use mathlib.Core.Path.{◌≡◌, refl, sym, ap, ◌∙◌, subst}
use mathlib.Core.Bool.{true}
use mathlib.Core.List.{List, [], ◌∷◌, ◌++◌, map}
use native.Mathlib.Omega.{arith}
use lib.ListN.{length, take, drop, length-append, length-drop}
use lib.Seq.{take_at}
use Rattle.rules.specs.declared.answers.Ended.{Ended}
use Rattle.rules.specs.declared.answers.Ended.TheVariants.{AllWorked, NoRoom, BeforeRefused}
use Rattle.rules.specs.declared.station.Station.{Station}
use Rattle.rules.specs.declared.run.Inputs.{Inputs}
use Rattle.rules.specs.declared.run.Row.{Row}
use Rattle.rules.specs.declared.run.Run.{Run}
use Rattle.rules.specs.declared.run.Step.{Step}
use Rattle.rules.specs.Answers.{Answer, accepted, refused, ◌>>◌}
use Rattle.rules.specs.StationRecord.{some_file_gives}
use Rattle.rules.specs.RunRecord.{start_record, possible}
use Rattle.rules.specs.Row.{columns}
use Rattle.rules.specs.Second.{step, record_after, admitted}
use Rattle.rules.specs.Seconds.{inputs_each, numbers_of, WorkedSeconds, came_on, came_to, Seconds}
use Rattle.rules.specs.Calls.{Call}
use Rattle.rules.specs.Calls as calls
use Rattle.rules.proofs.Shapes.{Tables}
use Rattle.rules.proofs.Start.{start-possible}
use Rattle.laws.specs.Admitted.{Admitted}
use Rattle.laws.proofs.Kept.{judged-is, admitted_of, record-kept}
use Rattle.claims_rules.specs.Shown.{Worked}
use Rattle.claims_rules.specs.Batches.{one, many, ManyCall, Batch, run_after, ManyAnswer, BatchAnswer, batch_answer, asked_batch, came_by, ruled_answer, ruled_run, ruled_batches_from, ruled_batches, rows_each, rows_in, rows_in_batches, EndedAt, KeptMany, KeptBatch, ChainedBatches, none, more, ClaimBatches}
use Rattle.claims_rules.proofs.Seconds.{worked_at}
use Rattle.claims_rules.proofs.Lists as lists
use Rattle.claims_rules.proofs.Lists.{Steps, worked_of}
use Rattle.claims_rules.proofs.OverRows.{over-rows, last-record}
use Rattle.claims_rules.proofs.Calls as called
use Rattle.claims_rules.proofs.Calls.{Owes}

-- ---- steps one after the other

steps_on : {st : Station} {r mid last : Run} {xs ys : List Inputs} → Steps st r xs mid → Steps st mid ys last → Steps st r (xs ++ ys) last
steps_on lists.none t = t
steps_on (lists.more h s) t = lists.more h (steps_on s t)

worked-on : {st : Station} {r mid : Run} {xs : List Inputs} → Steps st r xs mid → (ys : List Inputs) → worked_of st r (xs ++ ys) ≡ worked_of st r xs ++ worked_of st mid ys
unfolding worked_of
worked-on lists.none ys = refl
worked-on {st} {r} (lists.more {x = x} h s) ys = ap (λ (l : List Worked). worked_at st r x ∷ l) (worked-on s ys)

-- ---- rows as numbers

numbers-length : (rows : List Row) → length (numbers_of rows) ≡ 13 * length rows
unfolding numbers_of
numbers-length [] = refl
numbers-length (r ∷ rows) = omega (arith, length-append (columns r) (numbers_of rows), numbers-length rows)

-- as many rows as there are whole thirteens
fit : (n places : ℕ) → n ≤ places / 13 → 13 * n ≤ places
fit n places h = omega arith

-- why no more are worked, where there is room for so many rows
abbrev EndedIn : Ended → ℕ → ℕ → ℕ → Type 0
EndedIn AllWorked n asked room = n ≡ asked
EndedIn NoRoom n asked room = (n < asked) × (n ≡ room)
EndedIn BeforeRefused n asked room = (n < asked) × (n < room)

ended-on : (e : Ended) (n asked room : ℕ) → EndedIn e n asked room → EndedIn e (suc n) (suc asked) (suc room)
ended-on AllWorked n asked room h = omega arith
ended-on NoRoom n asked room h = (omega (arith, h.0), omega (arith, h.1))
ended-on BeforeRefused n asked room h = (omega (arith, h.0), omega (arith, h.1))

ended_at : (e : Ended) (n asked places : ℕ) → EndedIn e n asked (places / 13) → EndedAt e n asked places
ended_at AllWorked n asked places h = h
ended_at NoRoom n asked places h = (h.0, omega (arith, h.1))
ended_at BeforeRefused n asked places h = (h.0, omega (arith, h.1))

-- ---- what a batch owes, in its contract's words

abbrev pub OwesMany : Station → Run → ManyCall → Type 0
OwesMany st r m = Seconds st r m.inputs m.lent m.worked m.left

abbrev pub OwesBatch : Station → Run → Batch → Type 0
OwesBatch st r (one c) = Owes st r c
OwesBatch st r (many m) = OwesMany st r m

module _ (st : Station) (given : some_file_gives st ≡ true) (tables : Tables st) where
  -- ---- what seconds come to

  record WorkedOff (r : Run) (xs : List Inputs) (room : ℕ) (c : WorkedSeconds) : Type 0 where
    as-contract : came_to st r xs room ≡ c
    accepts : List Inputs
    steps : Steps st r accepts c.run
    shows : (rest : List ℕ) → rows_each xs (length c.rows) (numbers_of c.rows ++ rest) ≡ worked_of st r accepts
    done-is : c.run.done ≡ r.done + length c.rows
    fits : length c.rows ≤ room
    ended-in : EndedIn c.ended (length c.rows) (length xs) room
    none_kept : length c.rows ≡ 0 → (c.run ≡ r) × (c.rows ≡ [])
    stays-possible : possible st c.run ≡ true

  module _ (r : Run) (x : Inputs) (xs : List Inputs) (room : ℕ) (was-possible : possible st r ≡ true) where
    abbrev worked : Step
    worked = step st r x

    one-done : worked.run.done ≡ r.done + 1
    unfolding step record_after
    one-done = refl

    kept_on : Admitted st r x → possible st worked.run ≡ true
    unfolding step
    kept_on h = record-kept st tables r x h

    by_answer : (b : Answer (Unit {0})) → admitted r.done x 256 ≡ b
        → (possible st worked.run ≡ true → WorkedOff worked.run xs room (came_by st worked.run xs room))
        → WorkedOff r (x ∷ xs) (suc room) (came_on r (b >> accepted worked) (λ s. came_by st s.run xs room))
    unfolding came_to rows_each numbers_of worked_of worked_at
    by_answer (accepted u) e later =
        let is = judged-is st r x 256 given was-possible ∙ ap (λ (b : Answer (Unit {0})). b >> accepted worked) e in
        let h : Admitted st r x = (admitted_of st r x 256 worked is).0 in
        let w = later (kept_on h) in
        let c : WorkedSeconds = came_by st worked.run xs room in
        record {
          as-contract =
              ap (λ (a : Answer Step). came_on r a (λ s. came_to st s.run xs room)) is
              ∙ ap (λ (k : WorkedSeconds). came_on r (accepted worked) (λ s. k)) w.as-contract;
          accepts = x ∷ w.accepts;
          steps = lists.more h w.steps;
          shows = λ rest. ap (λ (l : List Worked). worked_at st r x ∷ l) (w.shows rest);
          done-is = omega (arith, w.done-is, one-done);
          fits = omega (arith, w.fits);
          ended-in = ended-on c.ended (length c.rows) (length xs) room w.ended-in;
          none_kept = λ z. absurd (omega arith);
          stays-possible = w.stays-possible;
        }
    by_answer (refused n p) e later =
        let is = judged-is st r x 256 given was-possible ∙ ap (λ (b : Answer (Unit {0})). b >> accepted worked) e in
        record {
          as-contract = ap (λ (a : Answer Step). came_on r a (λ s. came_to st s.run xs room)) is;
          accepts = [];
          steps = lists.none;
          shows = λ rest. refl;
          done-is = omega arith;
          fits = omega arith;
          ended-in = (omega arith, omega arith);
          none_kept = λ z. (refl, refl);
          stays-possible = was-possible;
        }

  worked-off : (r : Run) (xs : List Inputs) (room : ℕ) → possible st r ≡ true → WorkedOff r xs room (came_by st r xs room)
  unfolding came_to came_by rows_each worked_of
  worked-off r [] room h = record {
    as-contract = refl;
    accepts = [];
    steps = lists.none;
    shows = λ rest. refl;
    done-is = omega arith;
    fits = omega arith;
    ended-in = refl;
    none_kept = λ z. (refl, refl);
    stays-possible = h;
  }
  worked-off r (x ∷ xs) zero h = record {
    as-contract = refl;
    accepts = [];
    steps = lists.none;
    shows = λ rest. refl;
    done-is = omega arith;
    fits = omega arith;
    ended-in = (omega arith, refl);
    none_kept = λ z. (refl, refl);
    stays-possible = h;
  }
  worked-off r (x ∷ xs) (suc room) h = by_answer r x xs room h (admitted r.done x 256) refl (λ k. worked-off (step st r x).run xs room k)

  -- ---- one batch

  -- what is known of a batch that owes what the rules say
  record Off (r : Run) (b : Batch) : Type 0 where
    accepts : List Inputs
    steps : Steps st r accepts (run_after b)
    shows : rows_in b ≡ worked_of st r accepts
    told : batch_answer b ≡ ruled_answer st r (asked_batch b)
    hands : run_after b ≡ ruled_run st r (asked_batch b)
    kept : KeptBatch r b
    stays-possible : possible st (run_after b) ≡ true

  one-off : (r : Run) (c : Call) → possible st r ≡ true → Owes st r c → Off r (one c)
  one-off r c h o =
      let g = called.gone st given tables h (calls.more o calls.none) in
      record {
        accepts = g.inputs;
        steps = g.steps;
        shows = g.shows;
        told = ap one (called.told_here st given tables r c.handed.run c [] h o);
        hands = called.hands st given tables r c.handed.run c [] h o;
        kept = called.kept_here st given tables r c.handed.run c [] h o;
        stays-possible = called.stays-possible st given tables r c.handed.run c [] h o;
      }

  module _ (r : Run) (m : ManyCall) (was-possible : possible st r ≡ true) (o : OwesMany st r m) where
    abbrev xs : List Inputs
    xs = inputs_each m.inputs

    abbrev c : WorkedSeconds
    c = came_by st r xs (length m.lent / 13)

    abbrev n : ℕ
    n = m.worked.seconds

    w : WorkedOff r xs (length m.lent / 13) c
    w = worked-off r xs (length m.lent / 13) was-possible

    hands-is : m.worked.run ≡ c.run
    hands-is = o.hands ∙ ap (λ (k : WorkedSeconds). k.run) w.as-contract

    counts-is : n ≡ length c.rows
    counts-is = o.counts ∙ ap (λ (k : WorkedSeconds). length k.rows) w.as-contract

    ends_is : m.worked.ended ≡ c.ended
    ends_is = o.ends ∙ ap (λ (k : WorkedSeconds). k.ended) w.as-contract

    leaves-is : m.left ≡ numbers_of c.rows ++ drop (13 * length c.rows) m.lent
    leaves-is = o.leaves ∙ ap (λ (k : WorkedSeconds). numbers_of k.rows ++ drop (13 * length k.rows) m.lent) w.as-contract

    numbers-are : take (13 * n) m.left ≡ numbers_of c.rows
    numbers-are = rw (counts-is, leaves-is) (take_at (numbers_of c.rows) (drop (13 * length c.rows) m.lent) (13 * length c.rows) (numbers-length c.rows))

    fit-here : 13 * length c.rows ≤ length m.lent
    fit-here = fit (length c.rows) (length m.lent) w.fits

    left-length : length m.left ≡ length m.lent
    left-length =
        ap length leaves-is ∙ length-append (numbers_of c.rows) (drop (13 * length c.rows) m.lent)
        ∙ (let e : length (numbers_of c.rows) + length (drop (13 * length c.rows) m.lent) ≡ length m.lent = omega (arith, length-drop (13 * length c.rows) m.lent, numbers-length c.rows, fit-here) in e)

    none_left : (rows : List Row) → rows ≡ [] → m.left ≡ numbers_of rows ++ drop (13 * length rows) m.lent → m.left ≡ m.lent
    unfolding numbers_of
    none_left rows e l = l ∙ ap (λ (s : List Row). numbers_of s ++ drop (13 * length s) m.lent) e

    kept-many : KeptMany r m
    kept-many = record {
      none-keeps = λ z. let k = w.none_kept (sym counts-is ∙ z) in (hands-is ∙ k.0, none_left c.rows k.1 leaves-is);
      seconds-moved = ap (λ (q : Run). q.done) hands-is ∙ w.done-is ∙ ap (λ (k : ℕ). r.done + k) (sym counts-is);
      rest-stays =
          leaves-is ∙ ap (λ (t : List ℕ). t ++ drop (13 * length c.rows) m.lent) (sym numbers-are)
          ∙ ap (λ (k : ℕ). take (13 * n) m.left ++ drop (13 * k) m.lent) (sym counts-is);
      rows_fit = omega (arith, counts-is, fit-here);
      length-stays = left-length;
      as-ended = rw (ends_is, counts-is) (ended_at c.ended (length c.rows) (length xs) (length m.lent) w.ended-in);
    }

    many-off : Off r (many m)
    many-off = record {
      accepts = w.accepts;
      steps = subst (λ (q : Run). Steps st r w.accepts q) (sym hands-is) w.steps;
      shows =
          ap (λ (k : ℕ). rows_each xs k m.left) counts-is
          ∙ ap (λ (l : List ℕ). rows_each xs (length c.rows) l) leaves-is
          ∙ w.shows (drop (13 * length c.rows) m.lent);
      told =
          ap (λ (t : ManyAnswer). many t)
          (ap (λ (k : ℕ). record { seconds = k; numbers = take (13 * n) m.left; ended = m.worked.ended }) counts-is
          ∙ ap (λ (l : List ℕ). record { seconds = length c.rows; numbers = l; ended = m.worked.ended }) numbers-are
          ∙ ap (λ (e : Ended). record { seconds = length c.rows; numbers = numbers_of c.rows; ended = e }) ends_is);
      hands = hands-is;
      kept = kept-many;
      stays-possible = ap (possible st) hands-is ∙ w.stays-possible;
    }

  off : (r : Run) (b : Batch) → possible st r ≡ true → OwesBatch st r b → Off r b
  off r (one c) h o = one-off r c h o
  off r (many m) h o = many-off r m h o

  -- ---- every list of batches

  record AfterBatches (r : Run) (bs : List Batch) (last : Run) : Type 0 where
    inputs : List Inputs
    steps : Steps st r inputs last
    shows : rows_in_batches bs ≡ worked_of st r inputs
    ruled : map batch_answer bs ≡ ruled_batches_from st r (map asked_batch bs)
    kept : ChainedBatches KeptBatch r bs last

  gone-on : (r last : Run) (b : Batch) (bs : List Batch) → Off r b → AfterBatches (run_after b) bs last → AfterBatches r (b ∷ bs) last
  unfolding rows_in_batches ruled_batches_from
  gone-on r last b bs w g = record {
    inputs = w.accepts ++ g.inputs;
    steps = steps_on w.steps g.steps;
    shows =
        ap (λ (l : List Worked). l ++ rows_in_batches bs) w.shows
        ∙ ap (λ (l : List Worked). worked_of st r w.accepts ++ l) g.shows
        ∙ sym (worked-on w.steps g.inputs);
    ruled =
        ap (λ (t : BatchAnswer). t ∷ map batch_answer bs) w.told
        ∙ ap (λ (l : List BatchAnswer). ruled_answer st r (asked_batch b) ∷ l) (g.ruled ∙ ap (λ (q : Run). ruled_batches_from st q (map asked_batch bs)) w.hands);
    kept = more w.kept g.kept;
  }

  gone : {r last : Run} {bs : List Batch} → possible st r ≡ true → ChainedBatches (OwesBatch st) r bs last → AfterBatches r bs last
  unfolding rows_in_batches ruled_batches_from worked_of
  gone h none = record { inputs = []; steps = lists.none; shows = refl; ruled = refl; kept = none }
  gone {r} {last} h (more {b = b} {bs = bs} o rest) =
      let w : Off r b = off r b h o in
      gone-on r last b bs w (gone w.stays-possible rest)

  pub claim-batches : (bs : List Batch) (last : Run) → ChainedBatches (OwesBatch st) (start_record st) bs last → ClaimBatches st (start_record st) bs last
  unfolding ruled_batches
  claim-batches bs last chained =
      let g : AfterBatches (start_record st) bs last = gone (start-possible st given) chained in
      record {
        as-ruled = g.ruled;
        kept = g.kept;
        over-rows = rw g.shows (over-rows st given tables g.inputs last g.steps);
        last-record = rw g.shows (last-record st given tables g.inputs last g.steps);
      }
