-- THE THEOREMS of the sample file in chunks, of the functions themselves: of every list of chunks, the check that is begun, fed and
-- finished answers what document 01 answers on the chunks joined, and the rows that are pulled are document 01's rows.
-- All that is known of a call is what the function's own contract ensures. Assumes nothing.
use Rattle.std.specs.Prelude.{Result, Option}
use Prim.Native.Nat.{ℕ, ◌≤◌}
use mathlib.Core.Path.{◌≡◌, sym, ap, ◌∙◌}
use mathlib.Core.Bool.{true}
use mathlib.Core.List.{List, [], ◌++◌, append-nil}
use lib.ListN.{length}
use borrow.Fn.Kinds as kinds
use contract.Lifetimes.{Lfts}
use denote.Triple.Clauses as clauses
use Rattle.rules.specs.declared.samples.Sample.{Sample}
use Rattle.rules.specs.Answers.{judged, result_of}
use Rattle.rules.specs.SampleFile.{sample_file}
use Rattle.rules.specs.Sizing.{sample_check}
use Rattle.sample_rows.specs.declared.reader.SampleReader.{SampleReader}
use Rattle.sample_rows.specs.declared.reader.Pulled.{Pulled}
use Rattle.samples.specs.declared.check.SampleCheck.{SampleCheck}
use Rattle.sheet_stages.specs.ToCome.{most_place, placed, file_rows, answer_of, is_refused}
use Rattle.sample_rows.specs.Streamed.{yet_to_come, PulledRight, ending_of}
use Rattle.samples.specs.Streamed.{sheet_span, checked_with}
use Rattle.rules.specs.Chunks.{joined, Feeds}
use Rattle.samples.specs.Chunks.{Pulls, left_at, rows_then}
use Rattle.sheet_stages.proofs.PlaceBound.{file-place}
use Rattle.sample_rows.proofs.LineLaws.{file-answer}
use Rattle.samples.proofs.CheckLaws.{span-place, span-judged}
use Rattle.samples.proofs.ChunkLaws.{FedRight, feeds-right, refused-for-good, left-next, pulls-right}
use Rattle.samples.proofs.check.check.Reads as check-reads
use Rattle.samples.proofs.check.check.Kinds as check-kinds
use Rattle.samples.proofs.check.feed.Reads as feed-reads
use Rattle.samples.proofs.check.feed.Kinds as feed-kinds
use Rattle.samples.proofs.check.finish.Reads as finish-reads
use Rattle.samples.proofs.check.finish.Kinds as finish-kinds
use Rattle.samples.proofs.check.is_refused.Reads as is-refused-reads
use Rattle.samples.proofs.check.is_refused.Kinds as is-refused-kinds
use Rattle.sample_rows.proofs.reader.reader.Reads as reader-reads
use Rattle.sample_rows.proofs.reader.reader.Kinds as reader-kinds
use Rattle.sample_rows.proofs.reader.pull.Reads as pull-reads
use Rattle.sample_rows.proofs.reader.pull.Kinds as pull-kinds
use Rattle.sample_rows.proofs.reader.end.Reads as end_reads
use Rattle.sample_rows.proofs.reader.end.Kinds as end-kinds
use Rattle.rules.specs.declared.answers.Refusal.{Refusal}
use Rattle.samples.specs.declared.check.Span.{Span}

-- ---- calls of which only what their contracts ensure is known

-- `check` gave c
pub record Begun (c : SampleCheck) : Type 0 where
  pub κs : Lfts 0
  pub args : kinds.Dens κs check-kinds.ps
  pub exit : clauses.AtExit (kinds.ended_of 0 check-kinds.ps check-kinds.r) κs
  pub returned : check-reads.Post κs args c exit

-- `feed` was handed c and the chunk, and gave d
pub record Fed (c : SampleCheck) (chunk : List ℕ) (d : SampleCheck) : Type 0 where
  pub κs : Lfts 1
  pub args : kinds.Dens κs feed-kinds.ps
  pub exit : clauses.AtExit (kinds.ended_of 1 feed-kinds.ps feed-kinds.r) κs
  pub passed : (args.0 ≡ c) × (args.1.0.now ≡ chunk)
  pub returned : feed-reads.Post κs args d exit

-- `finish` was handed c, and answered v
pub record Finished (c : SampleCheck) (v : Result Span Refusal) : Type 0 where
  pub κs : Lfts 0
  pub args : kinds.Dens κs finish-kinds.ps
  pub exit : clauses.AtExit (kinds.ended_of 0 finish-kinds.ps finish-kinds.r) κs
  pub passed : args.0 ≡ c
  pub returned : finish-reads.Post κs args v exit

-- `is_refused` was handed c, and answered that a line was refused
pub record ToldRefused (c : SampleCheck) : Type 0 where
  pub κs : Lfts 0
  pub args : kinds.Dens κs is-refused-kinds.ps
  pub exit : clauses.AtExit (kinds.ended_of 0 is-refused-kinds.ps is-refused-kinds.r) κs
  pub passed : args.0 ≡ c
  pub returned : is-refused-reads.Post κs args true exit

-- `reader` gave m
pub record Opened (m : SampleReader) : Type 0 where
  pub κs : Lfts 0
  pub args : kinds.Dens κs reader-kinds.ps
  pub exit : clauses.AtExit (kinds.ended_of 0 reader-kinds.ps reader-kinds.r) κs
  pub returned : reader-reads.Post κs args m exit

-- `pull` was handed m, the chunk and a place of it, and gave p
pub record PulledBy (m : SampleReader) (chunk : List ℕ) (at : ℕ) (p : Pulled) : Type 0 where
  pub κs : Lfts 1
  pub args : kinds.Dens κs pull-kinds.ps
  pub exit : clauses.AtExit (kinds.ended_of 1 pull-kinds.ps pull-kinds.r) κs
  pub passed : (args.0 ≡ m) × (args.1.0.now ≡ chunk) × (args.1.1.0 ≡ at)
  pub returned : pull-reads.Post κs args p exit

-- `end` was handed m, and gave e
pub record Ended (m : SampleReader) (e : Result (Option Sample) Refusal) : Type 0 where
  pub κs : Lfts 0
  pub args : kinds.Dens κs end-kinds.ps
  pub exit : clauses.AtExit (kinds.ended_of 0 end-kinds.ps end-kinds.r) κs
  pub passed : args.0 ≡ m
  pub returned : end_reads.Post κs args e exit

-- ---- what each owes

fed-owes : {c d : SampleCheck} {chunk : List ℕ} → Fed c chunk d → FedRight c chunk d
fed-owes {c} {d} {chunk} f =
    let p : (rest : List ℕ) → checked_with f.args.0 (f.args.1.0.now ++ rest) ≡ checked_with d rest = f.returned in
    λ rest. rw (f.passed.0, f.passed.1) at (p rest)

feeds-owe : {c last : SampleCheck} {chunks : List (List ℕ)} → Feeds Fed c chunks last → Feeds FedRight c chunks last
feeds-owe Feeds.none = Feeds.none
feeds-owe (Feeds.more one rest) = Feeds.more (fed-owes one) (feeds-owe rest)

pulled-owes : {m : SampleReader} {chunk : List ℕ} {at : ℕ} {p : Pulled} → PulledBy m chunk at p → PulledRight m chunk at p
pulled-owes {p = p} f =
    let q : PulledRight f.args.0 f.args.1.0.now f.args.1.1.0 p = f.returned in
    rw (f.passed.0, f.passed.1, f.passed.2) at q

pulls-owe : {m last : SampleReader} {at : ℕ} {chunks : List (List ℕ)} {rows : List Sample} → Pulls PulledBy m at chunks rows last → Pulls PulledRight m at chunks rows last
pulls-owe Pulls.none = Pulls.none
pulls-owe (Pulls.row p x one is rest) = Pulls.row p x (pulled-owes one) is (pulls-owe rest)
pulls-owe (Pulls.next p one is rest) = Pulls.next p (pulled-owes one) is (pulls-owe rest)

-- ---- THE CHECK, over every list of chunks

-- what a check that was begun and fed comes to, whatever follows the chunks
begun-and-fed : (chunks : List (List ℕ)) (first last : SampleCheck) (rest : List ℕ) → Begun first → Feeds Fed first chunks last → checked_with last rest ≡ placed (sheet_span (joined chunks ++ rest))
begun-and-fed chunks first last rest b f =
    let q : (rest : List ℕ) → checked_with first rest ≡ placed (sheet_span rest) = b.returned in
    sym (feeds-right (feeds-owe f) rest) ∙ q (joined chunks ++ rest)

finished : (last : SampleCheck) (v : Result Span Refusal) → Finished last v → result_of v ≡ checked_with last []
finished last v e =
    let p : result_of v ≡ checked_with e.args.0 [] = e.returned in
    p ∙ ap (λ (c : SampleCheck). checked_with c []) e.passed

pub check-of-chunks : (chunks : List (List ℕ)) (first last : SampleCheck) (v : Result Span Refusal) → Begun first → Feeds Fed first chunks last → Finished last v
    → result_of v ≡ placed (sheet_span (joined chunks))
check-of-chunks chunks first last v b f e =
    finished last v e ∙ begun-and-fed chunks first last [] b f ∙ ap (λ (s : List ℕ). placed (sheet_span s)) (append-nil (joined chunks))

-- a check that stops at a refused line answers what document 01 answers on the whole file, whatever the rest of it is
pub check-cut-short : (chunks : List (List ℕ)) (rest : List ℕ) (first last : SampleCheck) (v : Result Span Refusal) → Begun first → Feeds Fed first chunks last → ToldRefused last → Finished last v
    → result_of v ≡ placed (sheet_span (joined chunks ++ rest))
check-cut-short chunks rest first last v b f t e =
    let r : true ≡ is_refused t.args.0.reader.stage = t.returned in
    let k : is_refused last.reader.stage ≡ true = ap (λ (c : SampleCheck). is_refused c.reader.stage) (sym t.passed) ∙ sym r in
    finished last v e ∙ refused-for-good last rest k ∙ begun-and-fed chunks first last rest b f

-- of a file of less than 2^64 bytes: its rows and span, or document 01's refusal and its place
pub check-streamed : (chunks : List (List ℕ)) (first last : SampleCheck) (v : Result Span Refusal) → length (joined chunks) ≤ most_place
    → Begun first → Feeds Fed first chunks last → Finished last v
    → (result_of v ≡ sheet_span (joined chunks)) × (judged (result_of v) ≡ sample_check (joined chunks))
check-streamed chunks first last v h b f e =
    let p : result_of v ≡ sheet_span (joined chunks) = check-of-chunks chunks first last v b f e ∙ span-place (joined chunks) h in
    (p, ap judged p ∙ span-judged (joined chunks))

-- ---- THE ROWS, over every list of chunks: those pulled, and the last line's where it has no LF; of a refused file those of the lines
-- before the refused one, beside the refusal

pub rows-of-chunks : (chunks : List (List ℕ)) (first last : SampleReader) (rows : List Sample) (e : Result (Option Sample) Refusal) → Opened first → Pulls PulledBy first 0 chunks rows last → Ended last e
    → rows_then rows (ending_of e) ≡ file_rows (joined chunks)
rows-of-chunks chunks first last rows e o p z =
    let q : ending_of e ≡ yet_to_come z.args.0 [] = z.returned in
    let r : (rest : List ℕ) → yet_to_come first rest ≡ file_rows rest = o.returned in
    ap (rows_then rows) (q ∙ ap (λ (m : SampleReader). yet_to_come m []) z.passed) ∙ sym (pulls-right (pulls-owe p)) ∙ r (left_at 0 chunks) ∙ ap file_rows (sym (left-next chunks))

-- of a file of less than 2^64 bytes: document 01's rows, or its refusal and its place
pub rows-streamed : (chunks : List (List ℕ)) (first last : SampleReader) (rows : List Sample) (e : Result (Option Sample) Refusal) → length (joined chunks) ≤ most_place
    → Opened first → Pulls PulledBy first 0 chunks rows last → Ended last e
    → answer_of (rows_then rows (ending_of e)) ≡ sample_file (joined chunks)
rows-streamed chunks first last rows e h o p z = ap answer_of (rows-of-chunks chunks first last rows e o p z) ∙ file-answer (joined chunks) ∙ file-place (joined chunks) h
