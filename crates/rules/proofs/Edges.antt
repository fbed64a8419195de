-- Laws at the paper's edges, where its words fix what no worked case shows. Assumes nothing.
use Prim.Native.Nat.{ℕ, ◌+◌, ◌*◌, ◌≤◌, ◌<◌}
use mathlib.Core.Path.{◌≡◌}
use mathlib.Core.Bool.{true, false}
use mathlib.Core.List.{List}
use native.Mathlib.Omega.{arith}
use lib.Dec.{leb, ltb}
use Rattle.rules.specs.declared.station.Control.{Control}
use Rattle.rules.specs.declared.station.Station.{Station}
use Rattle.rules.specs.declared.run.Run.{Run}
use Rattle.rules.specs.declared.run.Inputs.{Inputs}
use Rattle.rules.specs.Bytes.{point, digits, parts}
use Rattle.rules.specs.Answers.{accepted, refused}
use Rattle.rules.specs.SampleFile.{time_cell, power_form, power_cell}
use Rattle.rules.specs.Setpoint.{coverage_of}
use Rattle.rules.specs.StationRecord.{some_file_gives}
use Rattle.rules.specs.RunRecord.{possible, most_seconds}
use Rattle.rules.specs.Second.{inputs_right, admitted, second, step}

-- ---- step 9: coverage is "rounded up"

pub coverage-rounded-up : (c : Control) (solar : ℕ)
    → (solar * c.coverage ≤ 100 * coverage_of c solar) × (100 * coverage_of c solar < solar * c.coverage + 100)
unfolding coverage_of
coverage-rounded-up c solar = (omega arith, omega arith)

-- ---- "cells left to right 18 before 19": a malformed cell is 18, whatever number its digits would make

pub malformed-time : (line limit : ℕ) (c : List ℕ) → digits 9 c ≡ false → time_cell line limit c ≡ refused 18 line
unfolding time_cell
malformed-time line limit c h = rw h

pub malformed-power : (line limit : ℕ) (c : List ℕ) → power_form (parts point c) ≡ false → power_cell line limit c ≡ refused 18 line
unfolding power_cell
malformed-power line limit c h = rw h

-- ---- "A second: 25, 24, 23, 19, 20, 26.": each is given where the checks before it pass and its own does not, whatever the
-- later ones say

module _ (st : Station) (r : Run) (x : Inputs) (room : ℕ) where
  pub second-25 : some_file_gives st ≡ false → second st r x room ≡ refused 25 0
  unfolding second
  second-25 a = rw a

  module _ (given : some_file_gives st ≡ true) where
    pub second-24 : possible st r ≡ false → second st r x room ≡ refused 24 0
    unfolding second
    second-24 a = rw (given, a)

    module _ (fair : possible st r ≡ true) where
      pub second-23 : ltb r.done most_seconds ≡ false → second st r x room ≡ refused 23 0
      unfolding second admitted
      second-23 a = rw (given, fair, a)

      module _ (more : ltb r.done most_seconds ≡ true) where
        pub second-19 : inputs_right x ≡ false → second st r x room ≡ refused 19 0
        unfolding second admitted
        second-19 a = rw (given, fair, more, a)

        module _ (limits : inputs_right x ≡ true) where
          pub second-20 : leb x.sheddable x.load ≡ false → second st r x room ≡ refused 20 0
          unfolding second admitted
          second-20 a = rw (given, fair, more, limits, a)

          module _ (part : leb x.sheddable x.load ≡ true) where
            pub second-26 : leb 256 room ≡ false → second st r x room ≡ refused 26 0
            unfolding second admitted
            second-26 a = rw (given, fair, more, limits, part, a)

            pub second-accepted : leb 256 room ≡ true → second st r x room ≡ accepted (step st r x)
            unfolding second admitted
            second-accepted a = rw (given, fair, more, limits, part, a)
