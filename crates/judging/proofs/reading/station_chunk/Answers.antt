-- `station_chunk` meets its contract. Assumes nothing.
use Rattle.judging.proofs.StationLaws.{station-enters, station-cut}
use Rattle.judging.proofs.reading.station_chunk.Goals as goal

pub returns-then-is_too_long : goal.returns-then-is_too_long
returns-then-is_too_long c = station-cut c.args.held c.args.chunk.now c.more_station-file.result c.more_bytes-size.result c.station_judged.result c.more_station-file.ensures (c.is_too_long.ensures.1 c.if-is_too_long.true) c.station_judged.ensures

pub returns : goal.returns
returns c = station-enters c.args.held c.args.chunk.now c.more_station-file.result c.more_bytes-size.result c.more_station-file.ensures
