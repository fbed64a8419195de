-- `station::chunks::more_station` meets its contract. Assumes nothing.
use Prim.Native.Nat.{◌+◌}
use mathlib.Core.Path.{◌≡◌, ap, ◌∙◌}
use mathlib.Core.List.{◌++◌}
use native.Mathlib.Omega.{arith}
use lib.ListN.{length, take}
use Rattle.std.proofs.lemmas.Slice.{take-put_mid}
use Rattle.station.specs.Stations.{station_with}
use Rattle.station.proofs.StationLaws.{all_held, over-held}
use Rattle.station.proofs.chunks.more_station.Goals as goal

pub returns-then-held-chunk : goal.returns-then-held-chunk
unfolding station_with
returns-then-held-chunk c =
    let a = c.args in
    let least = c.min-held in
    let size : length a.file.bytes ≡ 677 = c.well_formed.0.1.1.0.1.0.1 in
    λ rest. over-held a.file.bytes a.file.len least.result size least.ensures a.chunk.now rest (omega arith)

pub returns : goal.returns
unfolding station_with
returns c =
    let bytes = c.args.file.bytes in
    let chunk = c.args.chunk.now in
    let least = c.min-held in
    let size : length bytes ≡ 677 = c.well_formed.0.1.1.0.1.0.1 in
    let new = c.copy_from_slice.new.self in
    let same : new ≡ chunk = c.copy_from_slice.ensures.after in
    let ends : least.result + length chunk ≡ least.result + length new = rw same in
    let put = take-put_mid least.result _ bytes new (least.result + length chunk) ends (omega arith) in
    λ rest. all_held bytes c.args.file.len least.result size least.ensures chunk _ rest (put ∙ ap (λ l. take least.result bytes ++ l) same)
