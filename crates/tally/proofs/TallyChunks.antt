-- THE THEOREMS of the tally in chunks, of the functions themselves: of every list of chunks, empty ones included, the tally that is
-- begun and carried on is that of the chunks joined, so that it does not depend on how the file came in chunks.
-- All that is known of a call is what the function's own contract ensures. Assumes nothing.
use Rattle.std.proofs.Common.{◌≡◌, ℕ, List, [], ◌∷◌, sym, refl, ap, ◌∙◌}
use borrow.Fn.Kinds as kinds
use contract.Lifetimes.{Lfts}
use denote.Triple.Clauses as clauses
use Rattle.tally.specs.declared.Tally.{Tally}
use Rattle.tally.specs.Tally.{no_bytes, tallied_of}
use Rattle.rules.specs.Chunks.{joined, Feeds}
use Rattle.tally.proofs.TallyLaws.{tallied-append}
use Rattle.tally.proofs.no_bytes.Reads as no-bytes-reads
use Rattle.tally.proofs.no_bytes.Kinds as no-bytes-kinds
use Rattle.tally.proofs.tallied.Reads as tallied-reads
use Rattle.tally.proofs.tallied.Kinds as tallied-kinds

-- ---- calls of which only what their contracts ensure is known

-- `no_bytes` gave t
pub record Begun (t : Tally) : Type 0 where
  pub κs : Lfts 0
  pub args : kinds.Dens κs no-bytes-kinds.ps
  pub exit : clauses.AtExit (kinds.ended_of 0 no-bytes-kinds.ps no-bytes-kinds.r) κs
  pub returned : no-bytes-reads.Post κs args t exit

-- `tallied` was handed t and the chunk, and gave u
pub record Counted (t : Tally) (chunk : List ℕ) (u : Tally) : Type 0 where
  pub κs : Lfts 1
  pub args : kinds.Dens κs tallied-kinds.ps
  pub exit : clauses.AtExit (kinds.ended_of 1 tallied-kinds.ps tallied-kinds.r) κs
  pub passed : (args.0 ≡ t) × (args.1.0.now ≡ chunk)
  pub returned : tallied-reads.Post κs args u exit

counted-owes : {t u : Tally} {chunk : List ℕ} → Counted t chunk u → u ≡ tallied_of t chunk
counted-owes {t} {u} {chunk} a =
    let p : u ≡ tallied_of a.args.0 a.args.1.0.now = a.returned in
    rw (a.passed.0, a.passed.1) at p

-- ---- THE TALLY, over every list of chunks

-- from any tally on
pub tally-after-chunks : (chunks : List (List ℕ)) (first last : Tally) → Feeds Counted first chunks last → last ≡ tallied_of first (joined chunks)
unfolding joined tallied_of
tally-after-chunks [] first last Feeds.none = refl
tally-after-chunks (chunk ∷ chunks) first last (Feeds.more {t = next} one others) =
    tally-after-chunks chunks next last others
    ∙ ap (λ (t : Tally). tallied_of t (joined chunks)) (counted-owes one)
    ∙ sym (tallied-append first chunk (joined chunks))

-- of a file, from its first byte
pub tally-of-chunks : (chunks : List (List ℕ)) (first last : Tally) → Begun first → Feeds Counted first chunks last → last ≡ tallied_of no_bytes (joined chunks)
tally-of-chunks chunks first last b f =
    let q : first ≡ no_bytes = b.returned in
    tally-after-chunks chunks first last f ∙ ap (λ (t : Tally). tallied_of t (joined chunks)) q

-- two passes over the same bytes, in whatever chunks, come to the same tally
pub same-bytes-same-tally : (chunks others : List (List ℕ)) (first last once end : Tally) → joined chunks ≡ joined others
    → Begun first → Feeds Counted first chunks last → Begun once → Feeds Counted once others end → last ≡ end
same-bytes-same-tally chunks others first last once end same b f c g =
    tally-of-chunks chunks first last b f ∙ ap (tallied_of no_bytes) same ∙ sym (tally-of-chunks others once end c g)
