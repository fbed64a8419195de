-- `station::chunks::station_of` meets its contract. Assumes nothing.
use mathlib.Core.Path.{◌≡◌, sym, ap, ◌∙◌}
use mathlib.Core.List.{[], ◌++◌, append-nil}
use native.Mathlib.Omega.{arith}
use lib.ListN.{length, take, length-take}
use Rattle.rules.specs.StationFile.{station_file}
use Rattle.station.specs.Stations.{station_with}
use Rattle.station.proofs.StationLaws.{held-is}
use Rattle.station.proofs.chunks.station_of.Goals as goal

pub slice_bounds-bytes-end : goal.slice_bounds-bytes-end
slice_bounds-bytes-end c =
    let size : length c.args.file.bytes ≡ 677 = c.well_formed.0.1.1.0.1.0.1 in
    omega arith

pub slice_bounds-read_station-end : goal.slice_bounds-read_station-end
slice_bounds-read_station-end c =
    let size : length c.args.file.bytes ≡ 677 = c.well_formed.0.1.1.0.1.0.1 in
    simp length-take (omega arith)

pub returns : goal.returns
unfolding station_with
returns c =
    let file = c.args.file in
    let size : length file.bytes ≡ 677 = c.well_formed.0.1.1.0.1.0.1 in
    let least = c.min-len in
    let held = held-is file.bytes file.len least.result size least.ensures in
    let is : take least.result file.bytes ≡ take file.len file.bytes ++ [] = held ∙ sym (append-nil (take file.len file.bytes)) in
    c.read_station.ensures ∙ ap station_file is
