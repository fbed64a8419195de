-- What is asked of each second, in its order: the first test that fails decides. Assumes nothing.
use Prim.Native.Nat.{ℕ, ◌≤◌, ◌<◌}
use mathlib.Core.Path.{◌≡◌}
use mathlib.Core.Bool.{true, false}
use borrow.Author.Tests.{lt-ltb, le-ltb, le-leb, lt-leb}
use Rattle.rules.specs.declared.run.Inputs.{Inputs}
use Rattle.rules.specs.Answers.{accepted, refused}
use Rattle.rules.specs.RunRecord.{most_seconds}
use Rattle.rules.specs.Second.{inputs_right, admitted}

module _ (done : ℕ) (x : Inputs) (room : ℕ) where
  pub run-ended : most_seconds ≤ done → refused 23 0 ≡ admitted done x room
  unfolding admitted
  run-ended h = rw (le-ltb done most_seconds h)

  module _ (going : done < most_seconds) where
    pub inputs-over : inputs_right x ≡ false → refused 19 0 ≡ admitted done x room
    unfolding admitted
    inputs-over h = rw (lt-ltb done most_seconds going, h)

    module _ (right : inputs_right x ≡ true) where
      pub sheddable-above : x.load < x.sheddable → refused 20 0 ≡ admitted done x room
      unfolding admitted
      sheddable-above h = rw (lt-ltb done most_seconds going, right, lt-leb x.sheddable x.load h)

      module _ (within : x.sheddable ≤ x.load) where
        pub buffer-short : room < 256 → refused 26 0 ≡ admitted done x room
        unfolding admitted
        buffer-short h = rw (lt-ltb done most_seconds going, right, le-leb x.sheddable x.load within, lt-leb 256 room h)

        pub none-refuses : 256 ≤ room → accepted tt ≡ admitted done x room
        unfolding admitted
        none-refuses h = rw (lt-ltb done most_seconds going, right, le-leb x.sheddable x.load within, le-leb 256 room h)
