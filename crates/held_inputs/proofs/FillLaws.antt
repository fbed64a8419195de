-- The seconds that a chunk tells, one after the other into three slices. Assumes nothing.
use Prim.Native.Nat.{ℕ, zero, suc, ◌+◌, ◌-◌, ◌≤◌, ◌<◌, min}
use mathlib.Core.Path.{◌≡◌, refl, sym, ap, subst, ◌∙◌}
use mathlib.Core.Bool.{true, false}
use mathlib.Core.List.{List, [], ◌∷◌, ◌++◌, append_assoc}
use native.Mathlib.Omega.{arith}
use native.Mathlib.Numerals.{add-one}
use native.Mathlib.Decide.{dec_lt}
use lib.ListN.{length, drop, set, length-set}
use lib.Seq.{drop-set-lt, drop-drop, drop-length}
use Rattle.rules.specs.declared.samples.Sample.{Sample}
use Rattle.rules.specs.declared.run.Inputs.{Inputs}
use Rattle.rules.specs.Answers.{is_accepted}
use Rattle.rules.specs.Run.{inputs_of}
use Rattle.rules.proofs.Tests.{never}
use Rattle.sample_rows.specs.declared.reader.SampleReader.{SampleReader}
use Rattle.rows_in_force.specs.declared.in_force.Ahead.{Ahead}
use Rattle.rows_in_force.specs.declared.in_force.Begun.{Begun}
use Rattle.input_source.specs.declared.source.InputSource.{InputSource}
use Rattle.held_inputs.specs.declared.fill.Filled.{Filled}
use Rattle.rows_in_force.specs.declared.in_force.Reached.{Reached}
use Rattle.sheet_stages.specs.ToCome.{RowsRead}
use Rattle.sample_rows.specs.Streamed.{yet_to_come}
use Rattle.rows_in_force.specs.Held.{rows_ahead, reader_at, is_refusal, held_from, latest, AtSecond, ReachedRight, is_unread}
use Rattle.input_source.specs.Source.{source_rows, source_refused}
use Rattle.held_inputs.specs.Filling.{inputs_in, HeldOn, places_of, KeptFrom, FilledRight, Filling}
use Rattle.sample_rows.proofs.LineLaws.{drop-least}
use Rattle.rows_in_force.proofs.HeldLaws.{latest-none, latest-of, held_next, unread-is}
use Rattle.input_source.proofs.EndLaws.{nothing_left, for-good, no-refusal, refused-unread}

-- ---- the slices

inputs-none : (loads solars sheddables : List ℕ) → inputs_in 0 loads solars sheddables ≡ []
unfolding inputs_in
inputs-none loads solars sheddables = refl

-- one place more
inputs-more : (i : ℕ) (loads solars sheddables : List ℕ) (l s h : ℕ) → i < length loads → i < length solars → i < length sheddables
    → inputs_in (suc i) (set loads i l) (set solars i s) (set sheddables i h) ≡ inputs_in i loads solars sheddables ++ (record { load = l; solar = s; sheddable = h } ∷ [])
unfolding inputs_in
inputs-more i [] solars sheddables l s h p q r = absurd (omega arith)
inputs-more i (x ∷ loads) [] sheddables l s h p q r = absurd (omega arith)
inputs-more i (x ∷ loads) (y ∷ solars) [] l s h p q r = absurd (omega arith)
inputs-more zero (x ∷ loads) (y ∷ solars) (z ∷ sheddables) l s h p q r = refl
inputs-more (suc i) (x ∷ loads) (y ∷ solars) (z ∷ sheddables) l s h p q r =
    ap (λ (w : List Inputs). record { load = x; solar = y; sheddable = z } ∷ w) (inputs-more i loads solars sheddables l s h (omega arith) (omega arith) (omega arith))

kept-none : (n : ℕ) (l : List ℕ) → KeptFrom n l l
kept-none n l = record { size = refl; rest = refl }

kept_more : (i : ℕ) (before l : List ℕ) (x : ℕ) → KeptFrom i before l → KeptFrom (i + 1) before (set l i x)
kept_more i before l x k = record {
  size = length-set l i x ∙ k.size;
  rest = drop-set-lt (i + 1) l i x (omega arith) ∙ sym (drop-drop 1 i l) ∙ ap (drop 1) k.rest ∙ drop-drop 1 i before;
}

-- of rows of which some are the last, none is later than the latest
among : (n : ℕ) (now : Sample) (rows : List Sample) (now' : Sample) (rows' : List Sample) → drop n (now ∷ rows) ≡ now' ∷ rows' → latest rows' ≤ latest rows
among zero now rows now' rows' e = let same : latest rows ≡ latest rows' = ap (λ (l : List Sample). latest (drop 1 l)) e in omega (arith, same)
among (suc n) now [] now' rows' e = absurd (no_row n now' rows' e)
  where
    no_row : (n : ℕ) (x : Sample) (l : List Sample) → drop n [] ≡ x ∷ l → ⊥
    no_row zero x l e = let z : 0 ≡ suc (length l) = ap length e in omega (arith, z)
    no_row (suc n) x l e = let z : 0 ≡ suc (length l) = ap length e in omega (arith, z)
among (suc n) now (x ∷ rows) now' rows' e = let k = among n x rows now' rows' e in let g = latest-of x rows in omega (arith, k, g)

-- what is ahead and what a reader comes to are all that the rows to come depend on
same_rows : (now : Sample) (ahead : Ahead) (m m' : SampleReader) (rest rest' : List ℕ) → yet_to_come m rest ≡ yet_to_come m' rest'
    → source_rows (record { reader = m; now = now; ahead = ahead }) rest ≡ source_rows (record { reader = m'; now = now; ahead = ahead }) rest'
unfolding source_rows
same_rows now ahead m m' rest rest' e = ap (rows_ahead ahead) e

-- ---- the loop

module _ (s : InputSource) (second : ℕ) (chunk : List ℕ) (at : ℕ) (loads₀ solars₀ sheddables₀ : List ℕ) where
  abbrev places : ℕ
  places = places_of loads₀ solars₀ sheddables₀

  -- the rows of the file, whatever follows the chunk
  abbrev before : List ℕ → RowsRead
  before rest = source_rows s (drop at chunk ++ rest)

  -- no second is told yet
  none_told : (next : ℕ) (rest : List ℕ) → HeldOn s.now (before rest) second (record { source = s; next = next; seconds = 0 }) (before rest) loads₀ solars₀ sheddables₀
  none_told next rest = record {
    verdict = refl;
    passed = 0;
    last = refl;
    told = λ n. let z : 0 + n ≡ n = omega arith in let t : second ≡ second + 0 = omega arith in
        ap (held_from s.now (before rest).rows second) z ∙ ap (λ (k : ℕ). held_from s.now (before rest).rows k n) t ∙ ap (λ (l : List Inputs). l ++ held_from s.now (before rest).rows (second + 0) n) (sym (inputs-none loads₀ solars₀ sheddables₀));
    came = λ m h k. k;
  }

  pub filling-start : (next : ℕ) → next ≡ min at (length chunk) → Filling s second chunk at loads₀ solars₀ sheddables₀ (record { source = s; next = next; seconds = 0 }) loads₀ solars₀ sheddables₀
  filling-start next e = record {
    inputs = λ rest. let left : before rest ≡ source_rows s (drop next chunk ++ rest) = rw (e, drop-least at chunk) in
        subst (λ (r : RowsRead). HeldOn s.now (before rest) second (record { source = s; next = next; seconds = 0 }) r loads₀ solars₀ sheddables₀) left (none_told next rest);
    within = omega arith;
    onward = omega arith;
    most = omega arith;
    before = λ rest h. absurd (omega arith);
    ended = refl;
    refusal = refl;
    kept_loads = kept-none 0 loads₀;
    kept_solars = kept-none 0 solars₀;
    kept_sheddables = kept-none 0 sheddables₀;
  }

  module _ (r : Filled) (loads solars sheddables : List ℕ) (g : Filling s second chunk at loads₀ solars₀ sheddables₀ r loads solars sheddables) where
    -- so many seconds are before the last row's time, where a line is refused
    seconds-before : source_refused s ≡ false → (rest : List ℕ) → 0 < r.seconds → is_accepted (before rest).verdict ≡ false → second + r.seconds ≤ latest (before rest).rows
    seconds-before live rest h e = g.before rest h (no-refusal s live) e

    -- the refusal stays
    stays-refused : (after : InputSource) (next : ℕ) (rest : List ℕ) → (source_rows after (drop next chunk ++ rest)).verdict ≡ (before rest).verdict → source_refused after ≡ true → is_accepted (before rest).verdict ≡ false
    stays-refused after next rest same dead = sym (ap is_accepted same) ∙ (nothing_left after (drop next chunk ++ rest) dead).1

    -- every place has its second
    pub filled : source_refused s ≡ false → places ≤ r.seconds → FilledRight s second chunk at loads₀ solars₀ sheddables₀ r loads solars sheddables
    filled live h = record {
      inputs = g.inputs;
      within = g.within;
      onward = g.onward;
      most = g.most;
      short = λ k. absurd (omega arith);
      waits = λ k. absurd (omega arith);
      all = λ e f. omega (arith, g.most);
      before = seconds-before live;
      refused = λ rest dead. all-before rest (stays-refused r.source r.next rest (g.inputs rest).verdict dead) (dec_lt 0 r.seconds);
      ended = g.ended;
      kept_loads = g.kept_loads;
      kept_solars = g.kept_solars;
      kept_sheddables = g.kept_sheddables;
    }
      where
        all-before : (rest : List ℕ) → is_accepted (before rest).verdict ≡ false → Dec (0 < r.seconds) → r.seconds ≡ min places (latest (before rest).rows - second)
        all-before rest e (yes k) = let b = seconds-before live rest k e in omega (arith, g.most, b)
        all-before rest e (no k) = omega (arith, g.most, k)

    -- the reader at the line that has begun
    module _ (b : Begun) (line : List ℕ) (at-line : r.source.reader ≡ reader_at b line) (q : Reached) (right : ReachedRight b line r.source.now r.source.ahead (second + r.seconds) chunk r.next q) where
      abbrev after : InputSource
      after = record { reader = reader_at q.begun line; now = q.now; ahead = q.ahead }

      abbrev after_rows : List ℕ → RowsRead
      after_rows rest = source_rows after (drop q.next chunk ++ rest)

      -- the second that was reached, of the rows that were to come
      here : (rest : List ℕ) → AtSecond r.source.now (source_rows r.source (drop r.next chunk ++ rest)) (second + r.seconds) q (after_rows rest)
      unfolding source_rows
      here rest = rw at-line (right.rows rest)

      last_on : (rest : List ℕ) → drop ((g.inputs rest).passed + (here rest).onward.passed) (s.now ∷ (before rest).rows) ≡ q.now ∷ (after_rows rest).rows
      last_on rest =
          let c = g.inputs rest in
          let o = (here rest).onward in
          sym (drop-drop o.passed c.passed (s.now ∷ (before rest).rows)) ∙ ap (drop o.passed) c.last ∙ o.last

      came-on : (rest : List ℕ) (m : ℕ) → second + r.seconds ≤ m → latest (after_rows rest).rows ≤ m → latest (before rest).rows ≤ m
      came-on rest m h k = (g.inputs rest).came m h ((here rest).onward.came m h k)

      further : min at (length chunk) ≤ q.next
      further = let o : min r.next (length chunk) ≤ q.next = right.onward in omega (arith, g.onward, g.within)

      abbrev kept_as : SampleReader → InputSource
      kept_as m = record { reader = m; now = q.now; ahead = q.ahead }

      -- no further line ends in the chunk, so that its last bytes are kept
      pub filled-short : (m : SampleReader) → ((rest : List ℕ) → yet_to_come (reader_at q.begun line) (drop q.next chunk ++ rest) ≡ yet_to_come m rest) → is_unread q.ahead ≡ true → source_refused s ≡ false → r.seconds < places
          → FilledRight s second chunk at loads₀ solars₀ sheddables₀ (record { source = record { reader = m; now = q.now; ahead = q.ahead }; next = length chunk; seconds = r.seconds }) loads solars sheddables
      filled-short m keeps u live h = record {
        inputs = λ rest. subst (λ (a : RowsRead). HeldOn s.now (before rest) second (record { source = kept_as m; next = length chunk; seconds = r.seconds }) a loads solars sheddables) (sym (kept_on rest)) (held rest);
        within = omega arith;
        onward = omega arith;
        most = g.most;
        short = λ k. refl;
        waits = λ k e. unread-is q.ahead u;
        all = λ e f. never (sym (right.wanted u) ∙ g.ended ∙ e);
        before = seconds-before live;
        refused = λ rest dead. all_told rest dead (stays-refused (kept_as m) (length chunk) rest (ap (λ (a : RowsRead). a.verdict) (kept_on rest) ∙ (held rest).verdict) dead) (dec_lt 0 r.seconds);
        ended = right.ended ∙ g.ended;
        kept_loads = g.kept_loads;
        kept_solars = g.kept_solars;
        kept_sheddables = g.kept_sheddables;
      }
        where
          kept_on : (rest : List ℕ) → source_rows (kept_as m) (drop (length chunk) chunk ++ rest) ≡ after_rows rest
          kept_on rest = rw (drop-length chunk) (same_rows q.now q.ahead m (reader_at q.begun line) rest (drop q.next chunk ++ rest) (sym (keeps rest)))

          held : (rest : List ℕ) → HeldOn s.now (before rest) second (record { source = kept_as m; next = length chunk; seconds = r.seconds }) (after_rows rest) loads solars sheddables
          held rest = record {
            verdict = (here rest).verdict ∙ (g.inputs rest).verdict;
            passed = (g.inputs rest).passed + (here rest).onward.passed;
            last = last_on rest;
            told = λ n. (g.inputs rest).told n ∙ ap (λ (l : List Inputs). inputs_in r.seconds loads solars sheddables ++ l) ((here rest).onward.held n);
            came = came-on rest;
          }

          -- no row is left, so that none was later
          all_told : (rest : List ℕ) → source_refused (kept_as m) ≡ true → is_accepted (before rest).verdict ≡ false → Dec (0 < r.seconds) → r.seconds ≡ min places (latest (before rest).rows - second)
          all_told rest dead e d =
              let none : latest (after_rows rest).rows ≡ 0 = ap latest (ap (λ (a : RowsRead). a.rows) (sym (kept_on rest)) ∙ (nothing_left (kept_as m) (drop (length chunk) chunk ++ rest) dead).0) ∙ latest-none in
              let up : latest (before rest).rows ≤ second + r.seconds = came-on rest (second + r.seconds) (omega arith) (omega (arith, none)) in
              go up d
            where
              go : latest (before rest).rows ≤ second + r.seconds → Dec (0 < r.seconds) → r.seconds ≡ min places (latest (before rest).rows - second)
              go up (yes k) = let b = seconds-before live rest k e in omega (arith, g.most, b, up)
              go up (no k) = omega (arith, g.most, k, up)

      -- one second more
      pub filling-more : is_unread q.ahead ≡ false → r.seconds < places
          → Filling s second chunk at loads₀ solars₀ sheddables₀ (record { source = after; next = q.next; seconds = r.seconds + 1 }) (set loads r.seconds q.now.load) (set solars r.seconds q.now.solar) (set sheddables r.seconds q.now.sheddable)
      filling-more u h = record {
        inputs = λ rest. record {
          verdict = (here rest).verdict ∙ (g.inputs rest).verdict;
          passed = (g.inputs rest).passed + (here rest).onward.passed;
          last = last_on rest;
          told = told_more rest;
          came = λ m k l. came-on rest m (omega arith) l;
        };
        within = right.within;
        onward = further;
        most = omega arith;
        before = before_more;
        ended = right.ended ∙ g.ended;
        refusal = right.refusal ∙ g.refusal;
        kept_loads = kept_more r.seconds loads₀ loads q.now.load g.kept_loads;
        kept_solars = kept_more r.seconds solars₀ solars q.now.solar g.kept_solars;
        kept_sheddables = kept_more r.seconds sheddables₀ sheddables q.now.sheddable g.kept_sheddables;
      }
        where
          -- a later row is still to come, and it was among those of the file
          before_more : (rest : List ℕ) → 0 < r.seconds + 1 → is_refusal s.ahead ≡ false → is_accepted (before rest).verdict ≡ false → second + (r.seconds + 1) ≤ latest (before rest).rows
          before_more rest k live e =
              let c = g.inputs rest in
              let t = (here rest).tells u (right.refusal ∙ g.refusal ∙ live) (ap is_accepted ((here rest).verdict ∙ c.verdict) ∙ e) in
              let a = among ((g.inputs rest).passed + (here rest).onward.passed) s.now (before rest).rows q.now (after_rows rest).rows (last_on rest) in
              omega (arith, t, a)

          told_more : (rest : List ℕ) (n : ℕ)
              → held_from s.now (before rest).rows second (r.seconds + 1 + n)
              ≡ inputs_in (r.seconds + 1) (set loads r.seconds q.now.load) (set solars r.seconds q.now.solar) (set sheddables r.seconds q.now.sheddable)
              ++ held_from q.now (after_rows rest).rows (second + (r.seconds + 1)) n
          told_more rest n =
              let i = r.seconds in
              let others = (after_rows rest).rows in
              let told : List Inputs = inputs_in i loads solars sheddables in
              let e : i + 1 + n ≡ i + suc n = omega arith in
              let t : suc (second + i) ≡ second + (i + 1) = omega arith in
              let later : List Inputs = held_from q.now others (second + (i + 1)) n in
              let p : i < length loads = omega (arith, g.kept_loads.size) in
              let b : i < length solars = omega (arith, g.kept_solars.size) in
              let d : i < length sheddables = omega (arith, g.kept_sheddables.size) in
              ap (held_from s.now (before rest).rows second) e
              ∙ (g.inputs rest).told (suc n)
              ∙ ap (λ (l : List Inputs). told ++ l) ((here rest).onward.held (suc n) ∙ held_next q.now others (second + i) n)
              ∙ ap (λ (x : Sample). told ++ inputs_of x ∷ held_from q.now others (suc (second + i)) n) ((here rest).force u)
              ∙ ap (λ (k : ℕ). told ++ inputs_of q.now ∷ held_from q.now others k n) t
              ∙ sym (append_assoc told (inputs_of q.now ∷ []) later)
              ∙ ap (λ (l : List Inputs). l ++ later) (sym (inputs-more i loads solars sheddables q.now.load q.now.solar q.now.sheddable p b d))
              ∙ ap (λ (k : ℕ). inputs_in k (set loads i q.now.load) (set solars i q.now.solar) (set sheddables i q.now.sheddable) ++ later) (sym (add-one i))

  -- a refused file tells no second
  pub filled_none : source_refused s ≡ true → FilledRight s second chunk at loads₀ solars₀ sheddables₀ (record { source = s; next = length chunk; seconds = 0 }) loads₀ solars₀ sheddables₀
  filled_none dead = record {
    inputs = λ rest. subst (λ (a : RowsRead). HeldOn s.now (before rest) second (record { source = s; next = length chunk; seconds = 0 }) a loads₀ solars₀ sheddables₀) (sym (same rest)) (none_told (length chunk) rest);
    within = omega arith;
    onward = omega arith;
    most = omega arith;
    short = λ k. refl;
    waits = λ k e. refused-unread s dead e;
    all = λ e f. never (sym f ∙ dead);
    before = λ rest h. absurd (omega arith);
    refused = λ rest e. let z : latest (before rest).rows ≡ 0 = ap latest (nothing_left s (drop at chunk ++ rest) dead).0 ∙ latest-none in omega (arith, z);
    ended = refl;
    kept_loads = kept-none 0 loads₀;
    kept_solars = kept-none 0 solars₀;
    kept_sheddables = kept-none 0 sheddables₀;
  }
    where
      -- once refused, the rest changes nothing
      same : (rest : List ℕ) → source_rows s (drop (length chunk) chunk ++ rest) ≡ before rest
      same rest = for-good s (drop (length chunk) chunk ++ rest) (drop at chunk ++ rest) dead
