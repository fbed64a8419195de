-- Document 01, "A row holds until the next": what each second is handed, of a sample file that comes in chunks.
-- What a call owes is stated over every rest of the file, so that calls chain.
use Rattle.std.specs.Prelude.{ℕ, zero, suc, ◌+◌, ◌-◌, ◌≤◌, ◌<◌, min, ◌≡◌, true, false, List, [], ◌∷◌, ◌++◌, length, drop}
use Rattle.rules.specs.declared.samples.Sample.{Sample}
use Rattle.rules.specs.declared.run.Inputs.{Inputs}
use Rattle.rules.specs.Answers.{is_accepted}
use Rattle.sheet_headings.specs.declared.headings.Columns.{Columns}
use Rattle.sheet_stages.specs.declared.stage.Stage.{Stage}
use Rattle.sample_rows.specs.declared.reader.SampleReader.{SampleReader}
use Rattle.rows_in_force.specs.declared.in_force.Ahead.{Ahead}
use Rattle.input_source.specs.declared.source.InputSource.{InputSource}
use Rattle.held_inputs.specs.declared.fill.Filled.{Filled}
use Rattle.rows_in_force.specs.declared.in_force.Reached.{Reached}
use Rattle.held_inputs.specs.declared.usual_seconds.FillState.{FillState}
use Rattle.sheet_stages.specs.ToCome.{RowsRead}
use Rattle.rows_in_force.specs.Held.{is_refusal, held_from, latest, reader_at}
use Rattle.input_source.specs.Source.{source_rows, source_ended, source_refused}

-- ---- what each second is handed

-- the first n places of three lists
unfoldable pub inputs_in : ℕ → List ℕ → List ℕ → List ℕ → List Inputs
inputs_in zero loads solars sheddables = []
inputs_in (suc n) [] solars sheddables = []
inputs_in (suc n) (l ∷ loads) [] sheddables = []
inputs_in (suc n) (l ∷ loads) (s ∷ solars) [] = []
inputs_in (suc n) (l ∷ loads) (s ∷ solars) (h ∷ sheddables) =
    record { load = l; solar = s; sheddable = h } ∷ inputs_in n loads solars sheddables

-- ---- what filling owes

-- where so many seconds were told: the refusal stays, and the seconds told are those of the rows before it
pub record HeldOn (now : Sample) (before : RowsRead) (second : ℕ) (r : Filled) (after : RowsRead) (loads solars sheddables : List ℕ) : Type 0 where
  pub verdict : after.verdict ≡ before.verdict
  pub passed : ℕ
  pub last : drop passed (now ∷ before.rows) ≡ r.source.now ∷ after.rows
  pub told : (n : ℕ) → held_from now before.rows second (r.seconds + n) ≡ inputs_in r.seconds loads solars sheddables ++ held_from r.source.now after.rows (second + r.seconds) n
  pub came : (m : ℕ) → second + r.seconds ≤ m → latest after.rows ≤ m → latest before.rows ≤ m

-- one place for each second: the shortest of the three slices
abbrev pub places_of : List ℕ → List ℕ → List ℕ → ℕ
places_of loads solars sheddables = min (length loads) (min (length solars) (length sheddables))

-- a slice keeps its length, and what stands from a place on
pub record KeptFrom (n : ℕ) (before after : List ℕ) : Type 0 where
  pub size : length after ≡ length before
  pub rest : drop n after ≡ drop n before

pub record FilledRight (s : InputSource) (second : ℕ) (chunk : List ℕ) (at : ℕ) (loads₀ solars₀ sheddables₀ : List ℕ) (r : Filled) (loads solars sheddables : List ℕ) : Type 0 where
  -- of every rest of the file, whether or not a line of it is refused
  pub inputs : (rest : List ℕ) → HeldOn s.now (source_rows s (drop at chunk ++ rest)) second r (source_rows r.source (drop r.next chunk ++ rest)) loads solars sheddables
  pub within : r.next ≤ length chunk
  pub onward : min at (length chunk) ≤ r.next
  pub most : r.seconds ≤ places_of loads₀ solars₀ sheddables₀
  -- only the end of the chunk leaves places empty
  pub short : r.seconds < places_of loads₀ solars₀ sheddables₀ → r.next ≡ length chunk
  -- where every row that is known has come into force
  pub waits : r.seconds < places_of loads₀ solars₀ sheddables₀ → source_ended s ≡ false → r.source.ahead ≡ Ahead.Unread
  -- and where the file has ended, only a refusal
  pub all : source_ended s ≡ true → source_refused s ≡ false → r.seconds ≡ places_of loads₀ solars₀ sheddables₀
  -- no second is told that no row before a refusal follows
  pub before : (rest : List ℕ) → 0 < r.seconds → is_accepted (source_rows s (drop at chunk ++ rest)).verdict ≡ false → second + r.seconds ≤ latest (source_rows s (drop at chunk ++ rest)).rows
  -- and a source is refused once each of them is told
  pub refused : (rest : List ℕ) → source_refused r.source ≡ true → r.seconds ≡ min (places_of loads₀ solars₀ sheddables₀) (latest (source_rows s (drop at chunk ++ rest)).rows - second)
  pub ended : source_ended r.source ≡ source_ended s
  pub kept_loads : KeptFrom r.seconds loads₀ loads
  pub kept_solars : KeptFrom r.seconds solars₀ solars
  pub kept_sheddables : KeptFrom r.seconds sheddables₀ sheddables

-- ---- one second after the other

-- before the first second
abbrev pub fill_begun : InputSource → ℕ → FillState
fill_begun s next = record { reached = record { begun = record { stage = s.reader.stage; len = s.reader.len }; now = s.now; ahead = s.ahead; next = next }; seconds = 0 }

-- no byte of a line has begun, and the next row is the last that was read
abbrev pub fill_state_at : Columns → ℕ → Sample → Sample → ℕ → ℕ → FillState
fill_state_at columns lines now x next seconds =
    record { reached = record { begun = record { stage = Stage.LaterRows columns x.at lines; len = 0 }; now = now; ahead = Ahead.Next x; next = next }; seconds = seconds }

-- with the bytes of the line that has begun
abbrev pub filled_at : FillState → List ℕ → Filled
filled_at t line = record { source = record { reader = reader_at t.reached.begun line; now = t.reached.now; ahead = t.reached.ahead }; next = t.reached.next; seconds = t.seconds }

-- where the chunk ends before the next second is told
abbrev pub filled_short : Reached → SampleReader → ℕ → ℕ → Filled
filled_short q m seconds next = record { source = record { reader = m; now = q.now; ahead = q.ahead }; next = next; seconds = seconds }

-- where it is told
abbrev pub told_at : Reached → ℕ → FillState
told_at q seconds = record { reached = q; seconds = seconds }

-- what is owed of the seconds told so far, whether or not others can be told
pub record Filling (s : InputSource) (second : ℕ) (chunk : List ℕ) (at : ℕ) (loads₀ solars₀ sheddables₀ : List ℕ) (r : Filled) (loads solars sheddables : List ℕ) : Type 0 where
  pub inputs : (rest : List ℕ) → HeldOn s.now (source_rows s (drop at chunk ++ rest)) second r (source_rows r.source (drop r.next chunk ++ rest)) loads solars sheddables
  pub within : r.next ≤ length chunk
  pub onward : min at (length chunk) ≤ r.next
  pub most : r.seconds ≤ places_of loads₀ solars₀ sheddables₀
  pub before : (rest : List ℕ) → 0 < r.seconds → is_refusal s.ahead ≡ false → is_accepted (source_rows s (drop at chunk ++ rest)).verdict ≡ false → second + r.seconds ≤ latest (source_rows s (drop at chunk ++ rest)).rows
  pub ended : source_ended r.source ≡ source_ended s
  pub refusal : is_refusal r.source.ahead ≡ is_refusal s.ahead
  pub kept_loads : KeptFrom r.seconds loads₀ loads
  pub kept_solars : KeptFrom r.seconds solars₀ solars
  pub kept_sheddables : KeptFrom r.seconds sheddables₀ sheddables

-- what telling further seconds owes: whatever filling had told those so far, it has told these too
pub record GoesOn (t : FillState) (second places : ℕ) (chunk loads solars sheddables : List ℕ) (r : FillState) (loads' solars' sheddables' : List ℕ) : Type 0 where
  pub filling : (s : InputSource) (at : ℕ) (loads₀ solars₀ sheddables₀ line : List ℕ) → places ≡ places_of loads₀ solars₀ sheddables₀
      → Filling s second chunk at loads₀ solars₀ sheddables₀ (filled_at t line) loads solars sheddables
      → Filling s second chunk at loads₀ solars₀ sheddables₀ (filled_at r line) loads' solars' sheddables'
  pub onward : t.seconds ≤ r.seconds
  pub same_loads : length loads' ≡ length loads
  pub same_solars : length solars' ≡ length solars
  pub same_sheddables : length sheddables' ≡ length sheddables
