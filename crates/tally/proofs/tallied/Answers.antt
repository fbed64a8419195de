-- `tally::tallied` meets its contract. Assumes nothing.
use Rattle.tally.specs.Tally.{bytes_of}
use Rattle.std.proofs.Common.{◌/◌, length}
use lib.ListN.{take-append-drop}
use Rattle.tally.proofs.TallyLaws.{tally-two, tally-parts, words-joined}
use Rattle.tally.proofs.tallied.Goals as goal

pub returns-then-begun-ne0 : goal.returns-then-begun-ne0
returns-then-begun-ne0 c =
    let parts = c.split_at.ensures in
    tally-two _ _ _ _ _ _ (rw (parts.front, parts.back) (take-append-drop c.to_word_end.result c.args.chunk.now)) c.with_bytes-begun.ensures c.with_bytes.ensures

pub returns : goal.returns
returns c =
    let parts = c.split_at.ensures in
    let words = c.as_chunks.ensures in
    tally-parts _ _ _ _ c.args.chunk.now c.split_at.result.0.now c.split_at.result.1.now (bytes_of c.as_chunks.result.0.now) c.as_chunks.result.1.now (rw (parts.front, parts.back) (take-append-drop c.to_word_end.result c.args.chunk.now))
    (rw (words.front, words.back) (words-joined (length c.split_at.result.1.now / 4) c.split_at.result.1.now)) c.with_bytes-begun.ensures (c.with_words.ensures c.if-begun-ne0.false).0 c.with_bytes-2.ensures
