-- `station::chunks::is_too_long` meets its contract. Assumes nothing.
use mathlib.Core.Path.{◌≡◌, refl}
use lib.ListN.{length}
use Rattle.station.specs.Stations.{too_long}
use Rattle.station.proofs.StationLaws.{too-long-decides}
use Rattle.station.proofs.chunks.is_too_long.Goals as goal

pub returns : goal.returns
unfolding too_long
returns c =
    let size : length c.args.file.bytes ≡ 677 = c.well_formed.0.1.1.0.1.0.1 in
    (refl, too-long-decides c.args.file size)
