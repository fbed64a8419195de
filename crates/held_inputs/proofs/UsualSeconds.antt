-- The seconds that usual rows tell: the row in force holds for one more, or the next row comes into force and one more is read. Assumes nothing.
use Rattle.std.specs.Prelude.{Some}
use Prim.Native.Nat.{ℕ, suc, min, ◌+◌, ◌≤◌, ◌<◌}
use mathlib.Core.Path.{◌≡◌, refl, sym, ap, subst, ◌∙◌}
use mathlib.Core.List.{List, ◌∷◌, ◌++◌}
use native.Mathlib.Omega.{arith}
use lib.ListN.{length, drop, set, length-set}
use lib.Seq.{drop-drop}
use borrow.Author.Tests.{lt-leb}
use Rattle.rules.specs.declared.samples.Sample.{Sample}
use Rattle.rules.specs.declared.run.Inputs.{Inputs}
use Rattle.rules.proofs.Tests.{never}
use Rattle.sheet_headings.specs.declared.headings.Columns.{Columns}
use Rattle.sheet_stages.specs.declared.stage.Stage.{Stage}
use Rattle.rows_in_force.specs.declared.in_force.Ahead.{Ahead}
use Rattle.rows_in_force.specs.declared.in_force.Begun.{Begun}
use Rattle.input_source.specs.declared.source.InputSource.{InputSource}
use Rattle.held_inputs.specs.declared.usual_seconds.FillState.{FillState}
use Rattle.sheet_stages.specs.ToCome.{most_place, RowsRead, row_first}
use Rattle.usual_rows.specs.Usual.{UsualLater}
use Rattle.sample_rows.specs.Streamed.{yet_to_come}
use Rattle.rows_in_force.specs.Held.{reader_at, ReachedRight}
use Rattle.input_source.specs.Source.{source_rows}
use Rattle.held_inputs.specs.Filling.{inputs_in, HeldOn, places_of, fill_state_at, filled_at, Filling, GoesOn}
use Rattle.rows_in_force.proofs.HeldLaws.{latest-of, in-force, before-next, onward-same}
use Rattle.held_inputs.proofs.FillLaws.{filling-more}
use Rattle.sample_rows.proofs.UsualNext.{usual-on}

-- ---- the row in force holds for one second more

-- a second before the next row's is reached with what is known
reached-before : (b : Begun) (line : List ℕ) (now x : Sample) (t : ℕ) (chunk : List ℕ) (next : ℕ) → t < x.at → next ≤ length chunk
    → ReachedRight b line now (Ahead.Next x) t chunk next (record { begun = b; now = now; ahead = Ahead.Next x; next = next })
reached-before b line now x t chunk next h w = record {
  rows = λ rest. let others = (yet_to_come (reader_at b line) (drop next chunk ++ rest)).rows in record {
    verdict = refl;
    onward = onward-same now (x ∷ others) t;
    force = λ u. before-next now x others t (lt-leb x.at t h);
    tells = λ u d r. let g = latest-of x others in omega (arith, h, g);
  };
  within = w;
  onward = omega arith;
  further = λ u. never u;
  wanted = λ u. never u;
  ended = refl;
  refusal = refl;
}

-- ---- the next row comes into force, and the one after it is read

module _ (columns : Columns) (lines : ℕ) (now x : Sample) (next i : ℕ) (chunk : List ℕ) (y : Sample) (after : ℕ) (u : UsualLater columns x.at chunk next y after) (line : List ℕ) where
  abbrev told : FillState
  told = fill_state_at columns lines now x next i

  abbrev then : FillState
  then = fill_state_at columns (min (suc lines) most_place) x y after i

  -- the rows after the one that comes into force
  rows_then : (rest : List ℕ) → source_rows (filled_at told line).source (drop next chunk ++ rest) ≡ row_first (Some x) (source_rows (filled_at then line).source (drop after chunk ++ rest))
  unfolding source_rows yet_to_come
  rows_then rest = ap (row_first (Some x)) (usual-on columns x.at lines chunk next y after u rest)

  row-then : (s : InputSource) (second at : ℕ) (loads₀ solars₀ sheddables₀ loads solars sheddables : List ℕ) → x.at ≤ second + i
      → Filling s second chunk at loads₀ solars₀ sheddables₀ (filled_at told line) loads solars sheddables
      → Filling s second chunk at loads₀ solars₀ sheddables₀ (filled_at then line) loads solars sheddables
  row-then s second at loads₀ solars₀ sheddables₀ loads solars sheddables h f = record {
    inputs = λ rest. held rest (subst (λ (r : RowsRead). HeldOn s.now (source_rows s (drop at chunk ++ rest)) second (filled_at told line) r loads solars sheddables) (rows_then rest) (f.inputs rest));
    within = u.right.within;
    onward = omega (arith, f.onward, u.right.onward);
    most = f.most;
    before = f.before;
    ended = f.ended;
    refusal = f.refusal;
    kept_loads = f.kept_loads;
    kept_solars = f.kept_solars;
    kept_sheddables = f.kept_sheddables;
  }
    where
      held : (rest : List ℕ) → HeldOn s.now (source_rows s (drop at chunk ++ rest)) second (filled_at told line) (row_first (Some x) (source_rows (filled_at then line).source (drop after chunk ++ rest))) loads solars sheddables
          → HeldOn s.now (source_rows s (drop at chunk ++ rest)) second (filled_at then line) (source_rows (filled_at then line).source (drop after chunk ++ rest)) loads solars sheddables
      held rest c =
          let left = (source_rows (filled_at then line).source (drop after chunk ++ rest)).rows in
          record {
            verdict = c.verdict;
            passed = c.passed + 1;
            last = sym (drop-drop 1 c.passed (s.now ∷ (source_rows s (drop at chunk ++ rest)).rows)) ∙ ap (drop 1) c.last;
            told = λ k. c.told k ∙ ap (λ (l : List Inputs). inputs_in i loads solars sheddables ++ l) (in-force now x left (second + i) k h);
            came = λ m k l. c.came m k (let g = latest-of x left in omega (arith, g, h));
          }

-- ---- one turn after the other

pub none_told : (t : FillState) (second places : ℕ) (chunk loads solars sheddables : List ℕ) → GoesOn t second places chunk loads solars sheddables t loads solars sheddables
none_told t second places chunk loads solars sheddables =
    record { filling = λ s at loads₀ solars₀ sheddables₀ line e f. f; onward = omega arith; same_loads = refl; same_solars = refl; same_sheddables = refl }

module _ (t : FillState) (second places : ℕ) (chunk loads₁ solars₁ sheddables₁ : List ℕ) (columns : Columns) (lines : ℕ) (now x : Sample) (next i : ℕ) (loads solars sheddables : List ℕ)
    (g : GoesOn t second places chunk loads₁ solars₁ sheddables₁ (fill_state_at columns lines now x next i) loads solars sheddables) where
  pub second-told : second + i < x.at → i < places
      → GoesOn t second places chunk loads₁ solars₁ sheddables₁ (fill_state_at columns lines now x next (i + 1)) (set loads i now.load) (set solars i now.solar) (set sheddables i now.sheddable)
  second-told h k = record {
    filling = λ s at loads₀ solars₀ sheddables₀ line e f.
        let b : Begun = record { stage = Stage.LaterRows columns x.at lines; len = 0 } in
        let f' = g.filling s at loads₀ solars₀ sheddables₀ line e f in
        let j : i < places_of loads₀ solars₀ sheddables₀ = omega arith in
        filling-more s second chunk at loads₀ solars₀ sheddables₀ (filled_at (fill_state_at columns lines now x next i) line) loads solars sheddables f' b line refl
        (record { begun = b; now = now; ahead = Ahead.Next x; next = next }) (reached-before b line now x (second + i) chunk next h f'.within) refl j;
    onward = omega (arith, g.onward);
    same_loads = length-set loads i now.load ∙ g.same_loads;
    same_solars = length-set solars i now.solar ∙ g.same_solars;
    same_sheddables = length-set sheddables i now.sheddable ∙ g.same_sheddables;
  }

  pub row_told : x.at ≤ second + i → (y : Sample) (after : ℕ) → UsualLater columns x.at chunk next y after
      → GoesOn t second places chunk loads₁ solars₁ sheddables₁ (fill_state_at columns (min (suc lines) most_place) x y after i) loads solars sheddables
  row_told h y after u = record {
    filling = λ s at loads₀ solars₀ sheddables₀ line e f.
        row-then columns lines now x next i chunk y after u line s second at loads₀ solars₀ sheddables₀ loads solars sheddables h (g.filling s at loads₀ solars₀ sheddables₀ line e f);
    onward = g.onward;
    same_loads = g.same_loads;
    same_solars = g.same_solars;
    same_sheddables = g.same_sheddables;
  }

-- where the tests passed, what was told is as the numbers have it
told_is : (t : FillState) (columns : Columns) (last lines : ℕ) (x : Sample) → t.reached.begun.stage ≡ Stage.LaterRows columns last lines → t.reached.ahead ≡ Ahead.Next x → t.reached.begun.len ≡ 0 → last ≡ x.at
    → fill_state_at columns lines t.reached.now x t.reached.next t.seconds ≡ t
told_is t columns last lines x stage ahead none same =
    let e : Stage.LaterRows columns x.at lines ≡ t.reached.begun.stage = ap (λ (n : ℕ). Stage.LaterRows columns n lines) (sym same) ∙ sym stage in
    λ i. record { reached = record { begun = record { stage = e i; len = sym none i }; now = t.reached.now; ahead = sym ahead i; next = t.reached.next }; seconds = t.seconds }

pub goes-on-from : {second places : ℕ} {chunk loads solars sheddables loads' solars' sheddables' : List ℕ} {r : FillState} (t : FillState) (columns : Columns) (last lines : ℕ) (x : Sample)
    → t.reached.begun.stage ≡ Stage.LaterRows columns last lines → t.reached.ahead ≡ Ahead.Next x → t.reached.begun.len ≡ 0 → last ≡ x.at
    → GoesOn (fill_state_at columns lines t.reached.now x t.reached.next t.seconds) second places chunk loads solars sheddables r loads' solars' sheddables'
    → GoesOn t second places chunk loads solars sheddables r loads' solars' sheddables'
goes-on-from {second} {places} {chunk} {loads} {solars} {sheddables} {loads'} {solars'} {sheddables'} {r} t columns last lines x stage ahead none same =
    subst (λ (from : FillState). GoesOn from second places chunk loads solars sheddables r loads' solars' sheddables') (told_is t columns last lines x stage ahead none same)
