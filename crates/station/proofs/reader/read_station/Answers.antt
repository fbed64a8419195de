-- `station::reader::read_station` meets its contract. Assumes nothing.
use mathlib.Core.Path.{ap, ◌∙◌}
use Rattle.std.proofs.lemmas.Result.{err_from_is_err_and}
use Rattle.rules.specs.Answers.{accepted}
use Rattle.rules.specs.StationRecord.{values_right}
use Rattle.station.proofs.ContentsOrder.{contents-refused, contents-passed, values-refused, file-read}
use Rattle.station.proofs.reader.read_station.Goals as goal

pub returns-in_err-contents_right : goal.returns-in_err-contents_right
returns-in_err-contents_right c =
    let p = err_from_is_err_and c.from_residual.result c.from_residual.ensures.1 in
    rw (p.1, p.2) (contents-refused c.args.s.now c.contents_right.result c.contents_right.ensures _ c.in_err-contents_right.was)

pub record_of-station-requires : goal.record_of-station-requires
record_of-station-requires c =
    contents-passed c.args.s.now _ c.contents_right.ensures c.in_ok-contents_right.was

pub returns-in_err-record_right : goal.returns-in_err-record_right
returns-in_err-record_right c =
    let w = c.record_right.ensures ∙ ap values_right c.record_of-station.ensures in
    let p = err_from_is_err_and c.from_residual-in_err-record_right.result c.from_residual-in_err-record_right.ensures.1 in
    rw (p.1, p.2) (values-refused c.args.s.now _ c.contents_right.ensures c.in_ok-contents_right.was c.record_right.result w _ c.in_err-record_right.was)

pub returns : goal.returns
returns c =
    let w = c.record_right.ensures ∙ ap values_right c.record_of-station.ensures in
    ap accepted c.record_of-station.ensures ∙ file-read c.args.s.now _ c.contents_right.ensures c.in_ok-contents_right.was c.record_right.result w c.in_ok-record_right.was
