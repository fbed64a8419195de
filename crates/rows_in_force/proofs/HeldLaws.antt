-- The row in force at a second, of the rows that are ahead. Assumes nothing.
use Rattle.std.specs.Prelude.{if◌then◌else◌, Some, None, Option, is_some}
use Prim.Native.Nat.{ℕ, zero, suc, ◌+◌, ◌≤◌, ◌<◌, min, max}
use mathlib.Core.Path.{◌≡◌, refl, sym, ap, subst, ◌∙◌}
use mathlib.Core.Bool.{Bool, true, false}
use mathlib.Core.List.{List, [], ◌∷◌, ◌++◌}
use native.Mathlib.Omega.{arith}
use lib.Dec.{leb}
use lib.ListN.{length, drop}
use lib.Seq.{drop-drop}
use borrow.Author.Tests.{le-leb, leb-true, leb-false}
use Rattle.rules.specs.declared.samples.Sample.{Sample}
use Rattle.rules.specs.declared.run.Inputs.{Inputs}
use Rattle.rules.specs.SampleFile.{holding}
use Rattle.rules.specs.Run.{inputs_of}
use Rattle.rules.proofs.Tests.{never}
use Rattle.sample_rows.specs.declared.reader.NextRow.{NextRow}
use Rattle.rows_in_force.specs.declared.in_force.Ahead.{Ahead}
use Rattle.rows_in_force.specs.declared.in_force.InForce.{InForce}
use Rattle.rows_in_force.specs.declared.in_force.Begun.{Begun}
use Rattle.sheet_stages.specs.ToCome.{RowsRead, row_first, all_read}
use Rattle.sample_rows.specs.Streamed.{yet_to_come, NextRight}
use Rattle.rows_in_force.specs.Held.{rows_ahead, is_ended, is_refusal, held_from, latest, Onward, Tellable, last_comes_in, comes_in, reader_at, ReachedRight, is_unread}
use Rattle.sample_rows.proofs.LineLaws.{drop-least}

-- ---- rows that are held

-- a row that has come into force is held from then on
pub in-force : (now x : Sample) (rows : List Sample) (t n : ℕ) → x.at ≤ t → held_from now (x ∷ rows) t n ≡ held_from x rows t n
unfolding held_from holding
in-force now x rows t zero h = refl
in-force now x rows t (suc n) h =
    let k : x.at ≤ suc t = omega arith in
    rw (le-leb x.at t h) (ap (λ (l : List Inputs). inputs_of (holding x rows t) ∷ l) (in-force now x rows (suc t) n k))

-- no row that is to come is in force before its second
none-to-come : (now : Sample) (t : ℕ) → holding now [] t ≡ now
unfolding holding
none-to-come now t = refl

pub before-next : (now x : Sample) (rows : List Sample) (t : ℕ) → leb x.at t ≡ false → holding now (x ∷ rows) t ≡ now
unfolding holding
before-next now x rows t h = rw h

pub held_next : (now : Sample) (rows : List Sample) (t n : ℕ) → held_from now rows t (suc n) ≡ inputs_of (holding now rows t) ∷ held_from now rows (suc t) n
unfolding held_from
held_next now rows t n = refl

pub held_none : (now : Sample) (rows : List Sample) (t : ℕ) → held_from now rows t 0 ≡ []
unfolding held_from
held_none now rows t = refl

-- the greatest time
pub latest-none : latest [] ≡ 0
unfolding latest
latest-none = refl

pub latest-of : (x : Sample) (rows : List Sample) → latest (x ∷ rows) ≡ max x.at (latest rows)
unfolding latest
latest-of x rows = refl

pub onward-same : (now : Sample) (rows : List Sample) (t : ℕ) → Onward now rows t now rows
onward-same now rows t = record { passed = 0; last = refl; held = λ n. refl; came = λ m h k. k }

onward-in : (now x : Sample) (rows : List Sample) (t : ℕ) → x.at ≤ t → Onward now (x ∷ rows) t x rows
onward-in now x rows t h = record { passed = 1; last = refl; held = λ n. in-force now x rows t n h; came = λ m k l. let e = latest-of x rows in omega (arith, e) }

pub onward_then : {now₀ now₁ now₂ : Sample} {rows₀ rows₁ rows₂ : List Sample} {t : ℕ} → Onward now₀ rows₀ t now₁ rows₁ → Onward now₁ rows₁ t now₂ rows₂ → Onward now₀ rows₀ t now₂ rows₂
onward_then {now₀} {rows₀ = rows₀} p q = record {
  passed = p.passed + q.passed;
  last = sym (drop-drop q.passed p.passed (now₀ ∷ rows₀)) ∙ ap (drop q.passed) p.last ∙ q.last;
  held = λ n. p.held n ∙ q.held n;
  came = λ m h k. p.came m h (q.came m h k);
}

-- ---- of the rows that are known

-- where what is after the rows that are known comes to `a`
pub record CameIn (now : Sample) (before : RowsRead) (t : ℕ) (a : RowsRead) (k : InForce) : Type 0 where
  pub verdict : (rows_ahead k.ahead a).verdict ≡ before.verdict
  pub onward : Onward now before.rows t k.now (rows_ahead k.ahead a).rows
  pub force : is_unread k.ahead ≡ false → holding k.now (rows_ahead k.ahead a).rows t ≡ k.now
  pub tells : is_unread k.ahead ≡ false → is_refusal k.ahead ≡ false → Tellable (rows_ahead k.ahead a) t

module _ (t : ℕ) (a : RowsRead) where
  stays : (now : Sample) (ahead : Ahead) → (is_unread ahead ≡ false → holding now (rows_ahead ahead a).rows t ≡ now) → (is_unread ahead ≡ false → is_refusal ahead ≡ false → Tellable (rows_ahead ahead a) t)
      → CameIn now (rows_ahead ahead a) t a (record { now = now; ahead = ahead })
  stays now ahead f g = record { verdict = refl; onward = onward-same now (rows_ahead ahead a).rows t; force = f; tells = g }

  -- no line is refused
  tellable : {P : Type 0} → true ≡ false → P
  tellable e = never (sym e)

  last-in : (now x : Sample) → CameIn now (all_read (x ∷ [])) t a (last_comes_in now x t)
  last-in now x = go (leb x.at t) refl
    where
      go : (b : Bool) → leb x.at t ≡ b
          → CameIn now (all_read (x ∷ [])) t a (if b then record { now = x; ahead = Ahead.Ended } else record { now = now; ahead = Ahead.Last x })
      go true e = record { verdict = refl; onward = onward-in now x [] t (leb-true x.at t e); force = λ u. none-to-come x t; tells = λ u w. tellable }
      go false e = stays now (Ahead.Last x) (λ u. before-next now x [] t e) (λ u w. tellable)

  then-in : {now x : Sample} {before : RowsRead} {k : InForce} → x.at ≤ t → CameIn x before t a k → CameIn now (row_first (Some x) before) t a k
  then-in {now} {x} {before} h c = record { verdict = c.verdict; onward = onward_then (onward-in now x before.rows t h) c.onward; force = c.force; tells = c.tells }

  next-in : (now x : Sample) → CameIn now (row_first (Some x) a) t a (comes_in now (Ahead.Next x) t)
  next-in now x = go (leb x.at t) refl
    where
      go : (b : Bool) → leb x.at t ≡ b
          → CameIn now (row_first (Some x) a) t a (if b then record { now = x; ahead = Ahead.Unread } else record { now = now; ahead = Ahead.Next x })
      go true e = then-in (leb-true x.at t e) (stays x Ahead.Unread (λ u. never (sym u)) (λ u w. never (sym u)))
      go false e = stays now (Ahead.Next x) (λ u. before-next now x a.rows t e) (λ u w r. let h = leb-false x.at t e in let g = latest-of x a.rows in omega (arith, h, g))

  two_in : (now x y : Sample) → CameIn now (all_read (x ∷ y ∷ [])) t a (comes_in now (Ahead.LastTwo x y) t)
  two_in now x y = go (leb x.at t) refl
    where
      go : (b : Bool) → leb x.at t ≡ b
          → CameIn now (all_read (x ∷ y ∷ [])) t a (if b then last_comes_in x y t else record { now = now; ahead = Ahead.LastTwo x y })
      go true e = then-in (leb-true x.at t e) (last-in x y)
      go false e = stays now (Ahead.LastTwo x y) (λ u. before-next now x (y ∷ []) t e) (λ u w. tellable)

pub comes-in-right : (t : ℕ) (a : RowsRead) (now : Sample) (ahead : Ahead) → CameIn now (rows_ahead ahead a) t a (comes_in now ahead t)
comes-in-right t a now Ahead.Unread = stays t a now Ahead.Unread (λ u. never (sym u)) (λ u w. never (sym u))
comes-in-right t a now (Ahead.Next x) = next-in t a now x
comes-in-right t a now (Ahead.LastTwo x y) = two_in t a now x y
comes-in-right t a now (Ahead.Last x) = last-in t a now x
comes-in-right t a now Ahead.Ended = stays t a now Ahead.Ended (λ u. none-to-come now t) (λ u w. tellable t a)
comes-in-right t a now (Ahead.Refused r) = stays t a now (Ahead.Refused r) (λ u. none-to-come now t) (λ u w. never (sym w))

abbrev pick : Bool → InForce → InForce → InForce
pick b x y = if b then x else y

-- whether the file has ended stays, and a row has to be read only where it has not
pub comes-in-ended : (now : Sample) (ahead : Ahead) (t : ℕ) → is_ended (comes_in now ahead t).ahead ≡ is_ended ahead
comes-in-ended now Ahead.Unread t = refl
comes-in-ended now (Ahead.Next x) t = go (leb x.at t)
  where
    go : (b : Bool) → is_ended (pick b (record { now = x; ahead = Ahead.Unread }) (record { now = now; ahead = Ahead.Next x })).ahead ≡ false
    go true = refl
    go false = refl
comes-in-ended now (Ahead.LastTwo x y) t = go (leb x.at t) (leb y.at t)
  where
    go : (b d : Bool)
        → is_ended (pick b (pick d (record { now = y; ahead = Ahead.Ended }) (record { now = x; ahead = Ahead.Last y })) (record { now = now; ahead = Ahead.LastTwo x y })).ahead ≡ true
    go true true = refl
    go true false = refl
    go false d = refl
comes-in-ended now (Ahead.Last x) t = go (leb x.at t)
  where
    go : (b : Bool) → is_ended (pick b (record { now = x; ahead = Ahead.Ended }) (record { now = now; ahead = Ahead.Last x })).ahead ≡ true
    go true = refl
    go false = refl
comes-in-ended now Ahead.Ended t = refl
comes-in-ended now (Ahead.Refused r) t = refl

pub comes-in-refusal : (now : Sample) (ahead : Ahead) (t : ℕ) → is_refusal (comes_in now ahead t).ahead ≡ is_refusal ahead
comes-in-refusal now Ahead.Unread t = refl
comes-in-refusal now (Ahead.Next x) t = go (leb x.at t)
  where
    go : (b : Bool) → is_refusal (pick b (record { now = x; ahead = Ahead.Unread }) (record { now = now; ahead = Ahead.Next x })).ahead ≡ false
    go true = refl
    go false = refl
comes-in-refusal now (Ahead.LastTwo x y) t = go (leb x.at t) (leb y.at t)
  where
    go : (b d : Bool)
        → is_refusal (pick b (pick d (record { now = y; ahead = Ahead.Ended }) (record { now = x; ahead = Ahead.Last y })) (record { now = now; ahead = Ahead.LastTwo x y })).ahead ≡ false
    go true true = refl
    go true false = refl
    go false d = refl
comes-in-refusal now (Ahead.Last x) t = go (leb x.at t)
  where
    go : (b : Bool) → is_refusal (pick b (record { now = x; ahead = Ahead.Ended }) (record { now = now; ahead = Ahead.Last x })).ahead ≡ false
    go true = refl
    go false = refl
comes-in-refusal now Ahead.Ended t = refl
comes-in-refusal now (Ahead.Refused r) t = refl

pub unread-is : (ahead : Ahead) → is_unread ahead ≡ true → ahead ≡ Ahead.Unread
unread-is Ahead.Unread h = refl
unread-is (Ahead.Next _) h = never h
unread-is (Ahead.LastTwo _ _) h = never h
unread-is (Ahead.Last _) h = never h
unread-is Ahead.Ended h = never h
unread-is (Ahead.Refused _) h = never h

-- ---- with rows of a chunk

module _ (b : Begun) (line : List ℕ) (now : Sample) (ahead : Ahead) (t : ℕ) (chunk : List ℕ) (at : ℕ) where
  -- where the loop is
  pub record Reaching (upto : Begun) (next : ℕ) (k : InForce) : Type 0 where
    pub rows : (rest : List ℕ) → CameIn now (rows_ahead ahead (yet_to_come (reader_at b line) (drop at chunk ++ rest))) t (yet_to_come (reader_at upto line) (drop next chunk ++ rest)) k
    pub within : next ≤ length chunk
    pub onward : min at (length chunk) ≤ next
    pub ended : is_ended k.ahead ≡ is_ended ahead
    pub refusal : is_refusal k.ahead ≡ is_refusal ahead

  pub reaching-start : (next : ℕ) (k : InForce) → next ≡ min at (length chunk) → k ≡ comes_in now ahead t → Reaching b next k
  reaching-start next k e is = subst (λ (k : InForce). Reaching b next k) (sym is) (record {
    rows = λ rest. rw (e, drop-least at chunk) (comes-in-right t (yet_to_come (reader_at b line) (drop at chunk ++ rest)) now ahead);
    within = omega arith;
    onward = omega arith;
    ended = comes-in-ended now ahead t;
    refusal = comes-in-refusal now ahead t;
  })

  module _ (upto : Begun) (next : ℕ) (k : InForce) (g : Reaching upto next k) where
    module _ (p : NextRow) (right : NextRight upto.stage line upto.len chunk next p) (u : is_unread k.ahead ≡ true) where
      abbrev after : Begun
      after = record { stage = p.stage; len = p.len }

      -- the rows up to the next one's are in force; where that one is unread, it is the one that the reader hands over
      module _ (found : Option Sample) (e : p.found ≡ found) (rest : List ℕ) where
        abbrev left : RowsRead
        left = yet_to_come (reader_at after line) (drop p.next chunk ++ rest)

        handed : rows_ahead k.ahead (yet_to_come (reader_at upto line) (drop next chunk ++ rest)) ≡ row_first found left
        unfolding yet_to_come
        handed =
            ap (λ (w : Ahead). rows_ahead w (yet_to_come (reader_at upto line) (drop next chunk ++ rest))) (unread-is k.ahead u)
            ∙ right.rows rest
            ∙ ap (λ (f : Option Sample). row_first f left) e

        same-verdict : (row_first found left).verdict ≡ (rows_ahead ahead (yet_to_come (reader_at b line) (drop at chunk ++ rest))).verdict
        same-verdict = ap (λ (r : RowsRead). r.verdict) (sym handed) ∙ (g.rows rest).verdict

        same-onward : Onward now (rows_ahead ahead (yet_to_come (reader_at b line) (drop at chunk ++ rest))).rows t k.now (row_first found left).rows
        same-onward = subst (λ (r : RowsRead). Onward now (rows_ahead ahead (yet_to_come (reader_at b line) (drop at chunk ++ rest))).rows t k.now r.rows) handed (g.rows rest).onward

      unended : is_ended ahead ≡ false
      unended = sym g.ended ∙ ap is_ended (unread-is k.ahead u)

      unrefused : is_refusal ahead ≡ false
      unrefused = sym g.refusal ∙ ap is_refusal (unread-is k.ahead u)

      pub reaching-more : (x : Sample) (k' : InForce) → p.found ≡ Some x → k' ≡ comes_in k.now (Ahead.Next x) t → Reaching after p.next k'
      reaching-more x k' e is = subst (λ (k : InForce). Reaching after p.next k) (sym is) (record {
        rows = λ rest. let d = comes-in-right t (left (Some x) e rest) k.now (Ahead.Next x) in
            record { verdict = d.verdict ∙ same-verdict (Some x) e rest; onward = onward_then (same-onward (Some x) e rest) d.onward; force = d.force; tells = d.tells };
        within = right.within;
        onward = let o : next < p.next = right.onward (ap is_some e) in omega (arith, g.onward);
        ended = comes-in-ended k.now (Ahead.Next x) t ∙ sym unended;
        refusal = comes-in-refusal k.now (Ahead.Next x) t ∙ sym unrefused;
      })

      -- the chunk has no further row
      pub not-reached : p.found ≡ None
          → ReachedRight b line now ahead t chunk at (record { begun = after; now = k.now; ahead = Ahead.Unread; next = p.next })
      not-reached e = record {
        rows = λ rest. record { verdict = same-verdict None e rest; onward = same-onward None e rest; force = λ b. never (sym b); tells = λ b. never (sym b) };
        within = right.within;
        onward = let o : min next (length chunk) ≤ p.next = right.ahead in omega (arith, g.onward, g.within);
        further = λ b. right.further (ap is_some e);
        wanted = λ b. unended;
        ended = sym unended;
        refusal = sym unrefused;
      }

    pub reached : is_unread k.ahead ≡ false → ReachedRight b line now ahead t chunk at (record { begun = upto; now = k.now; ahead = k.ahead; next = next })
    reached u = record {
      rows = λ rest. let c = g.rows rest in record { verdict = c.verdict; onward = c.onward; force = λ b. c.force u; tells = λ b. c.tells u };
      within = g.within;
      onward = g.onward;
      further = λ b. never (sym u ∙ b);
      wanted = λ b. never (sym u ∙ b);
      ended = g.ended;
      refusal = g.refusal;
    }
