-- How a file is cut into chunks changes nothing, of any calls that owe what the contracts of `feed` and `pull` say. Assumes nothing.
use Rattle.std.specs.Prelude.{Some, Option, is_some}
use Prim.Native.Nat.{ℕ}
use mathlib.Core.Path.{◌≡◌, refl, sym, ap, ◌∙◌}
use mathlib.Core.Bool.{true}
use mathlib.Core.List.{List, [], ◌∷◌, ◌++◌, append_assoc}
use lib.ListN.{length, drop}
use lib.Seq.{drop-length}
use Rattle.rules.specs.declared.samples.Sample.{Sample}
use Rattle.rules.proofs.Tests.{never}
use Rattle.sheet_stages.specs.declared.stage.Stage.{Stage}
use Rattle.sample_rows.specs.declared.reader.SampleReader.{SampleReader}
use Rattle.samples.specs.declared.check.SampleCheck.{SampleCheck}
use Rattle.sheet_stages.specs.ToCome.{to_come, row_first, is_refused}
use Rattle.sample_rows.specs.Streamed.{yet_to_come, PulledRight, lines_after, begun_in}
use Rattle.samples.specs.Streamed.{checked_with, spanned}
use Rattle.rules.specs.Chunks.{joined, Feeds}
use Rattle.samples.specs.Chunks.{Pulls, left_at, rows_then}
use Rattle.sheet_stages.proofs.StageLaws.{refused-read}

-- what a call of `feed` owes, in its contract's words
abbrev pub FedRight : SampleCheck → List ℕ → SampleCheck → Type 0
FedRight c chunk d = (rest : List ℕ) → checked_with c (chunk ++ rest) ≡ checked_with d rest

-- whatever follows the chunks
pub feeds-right : {c last : SampleCheck} {chunks : List (List ℕ)} → Feeds FedRight c chunks last → (rest : List ℕ) → checked_with c (joined chunks ++ rest) ≡ checked_with last rest
unfolding joined
feeds-right Feeds.none rest = refl
feeds-right {c} (Feeds.more {chunk = chunk} {chunks = chunks} one later) rest =
    ap (checked_with c) (append_assoc chunk (joined chunks) rest) ∙ one (joined chunks ++ rest) ∙ feeds-right later rest

-- once a line was refused, no rest of the file changes the answer
pub refused-for-good : (c : SampleCheck) (rest : List ℕ) → is_refused c.reader.stage ≡ true → checked_with c [] ≡ checked_with c rest
unfolding checked_with yet_to_come
refused-for-good c rest h = go c.reader.stage h
  where
    go : (s : Stage) → is_refused s ≡ true → spanned c.span (to_come s (lines_after (begun_in c.reader) [])) ≡ spanned c.span (to_come s (lines_after (begun_in c.reader) rest))
    go Stage.Heading e = never e
    go (Stage.FirstRow columns) e = never e
    go (Stage.LaterRows columns last n) e = never e
    go (Stage.Refused r) e = ap (spanned c.span) (refused-read r (lines_after (begun_in c.reader) []) ∙ sym (refused-read r (lines_after (begun_in c.reader) rest)))

pub left-next : (chunks : List (List ℕ)) → joined chunks ≡ left_at 0 chunks
unfolding joined
left-next [] = refl
left-next (chunk ∷ chunks) = refl

pub pulls-right : {m last : SampleReader} {at : ℕ} {chunks : List (List ℕ)} {rows : List Sample} → Pulls PulledRight m at chunks rows last
    → yet_to_come m (left_at at chunks) ≡ rows_then rows (yet_to_come last [])
pulls-right Pulls.none = refl
pulls-right {last = last} (Pulls.row {chunk = chunk} {chunks = chunks} {rows = rows} p x one is rest) =
    one.rows (joined chunks)
    ∙ ap (λ (f : Option Sample). row_first f (yet_to_come p.reader (drop p.next chunk ++ joined chunks))) is
    ∙ ap (row_first (Some x)) (pulls-right rest)
pulls-right {last = last} (Pulls.next {chunk = chunk} {chunks = chunks} {rows = rows} p one is rest) =
    let e : p.next ≡ length chunk = one.exhausted (ap is_some is) in
    let d : drop p.next chunk ++ joined chunks ≡ left_at 0 chunks =
    ap (λ (n : ℕ). drop n chunk ++ joined chunks) e ∙ ap (λ (l : List ℕ). l ++ joined chunks) (drop-length chunk) ∙ left-next chunks in
    one.rows (joined chunks)
    ∙ ap (λ (f : Option Sample). row_first f (yet_to_come p.reader (drop p.next chunk ++ joined chunks))) is
    ∙ ap (yet_to_come p.reader) d
    ∙ pulls-right rest
