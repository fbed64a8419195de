-- Document 01's worked cases P1 to P12, proved: for each case of the table, what the definitions give is what the paper shows.
-- By computation alone, P1 from the bytes of both files and of the seconds asked to the bytes printed. Assumes nothing.
use mathlib.Core.Path.{◌≡◌, refl}
use mathlib.Core.List.{map}
use lib.Ieee
use lib.Count
use Rattle.rules.specs.Numbers
use Rattle.rules.specs.Bytes
use Rattle.rules.specs.StationRecord
use Rattle.rules.specs.StationFile
use Rattle.rules.specs.Lines
use Rattle.rules.specs.SampleFile
use Rattle.rules.specs.Share
use Rattle.rules.specs.Fuel
use Rattle.rules.specs.Modes
use Rattle.rules.specs.Flows
use Rattle.rules.specs.Setpoint
use Rattle.rules.specs.Configuration
use Rattle.rules.specs.Commands
use Rattle.rules.specs.RunRecord
use Rattle.rules.specs.Row
use Rattle.rules.specs.Second
use Rattle.rules.specs.Run
use Rattle.rules.specs.Cases
use Rattle.rules.specs.Cases.{Case, cases}

pub cases-hold : map (λ (c : Case). c.gives) cases ≡ map (λ (c : Case). c.shows) cases
unfolding Numbers.sum_to Numbers.all_to Numbers.tab Numbers.mask_of Numbers.every Bytes.bytes Bytes.same Bytes.little Bytes.littles Bytes.bytes_of Bytes.bytes_of_all Bytes.digits_in Bytes.decimal Bytes.comma_line Bytes.all_digits Bytes.digits Bytes.value_from Bytes.parts StationRecord.past_end StationRecord.set_at StationRecord.no_set StationRecord.control_right StationRecord.battery_right StationRecord.set_right StationRecord.pairs_right StationRecord.sets_right StationRecord.configurations_right StationRecord.values_right StationFile.entry_right StationFile.sets_of StationFile.record_of StationFile.contents_right StationFile.station_file Lines.without_cr Lines.lines_of Lines.lines Lines.cells_of SampleFile.sample_sheet SampleFile.name_of SampleFile.occurs SampleFile.headings SampleFile.heading_line SampleFile.time_cell SampleFile.power_form SampleFile.power_value SampleFile.power_cell SampleFile.cell SampleFile.cell_values SampleFile.value_under SampleFile.row_values SampleFile.later_rows SampleFile.rows_after SampleFile.sheet_lines SampleFile.sample_file SampleFile.holding SampleFile.sample_at Share.running_total Share.capacity Share.share Fuel.exact_line Fuel.lower_of Fuel.lower_point Fuel.exact_from Fuel.fuel_rate Modes.state_at Modes.due Modes.tick_from Modes.tick Modes.ticked Modes.on_mask Flows.floor_load Flows.shed_now Flows.solar_on_load Flows.battery_gives Flows.battery_takes Flows.store_after Flows.diesel_for Flows.watts_with Flows.watts_for Flows.shed_decided Flows.decided_after Setpoint.coverage_of Setpoint.reserve Setpoint.wanted_for Setpoint.float Setpoint.thousandths Setpoint.filter_of Setpoint.filtered Setpoint.held_after Setpoint.covers Configuration.mask_called Configuration.usable Configuration.usable_covering Configuration.first_covering Configuration.greatest_usable Configuration.chosen Commands.counted Commands.counted_all Commands.command_from Commands.command Commands.every_on Commands.commanded_all RunRecord.start_record Row.row_heading Row.row_text Row.set_heading Row.set_lines Row.refusal_line Second.states_now Second.on_now Second.cap_now Second.floor_now Second.watts_now Second.store_now Second.decided_now Second.ran_now Second.held_now Second.call_now Second.commanded_now Second.record_after Second.row_after Second.step Run.seconds_asked Run.rows_from Run.run_of Run.printed Cases.station_a Cases.samples_a Cases.printed_a Cases.record_a Cases.set_with Cases.three_sets Cases.late_curve Cases.battery_with Cases.control_with Cases.called_at Cases.P1 Cases.P2 Cases.P3 Cases.P4 Cases.P5 Cases.P6 Cases.P7 Cases.P8 Cases.P9 Cases.P10 Cases.P11 Cases.P12 Cases.cases Ieee.span Ieee.climb Ieee.size Ieee.odd Ieee.units Ieee.round Ieee.sum Ieee.add Ieee.mul Ieee.div Ieee.lt Ieee.eq Ieee.le Ieee.of_int Count.ones Count.ones_in Count.count_trailing_zeros
cases-hold = refl
