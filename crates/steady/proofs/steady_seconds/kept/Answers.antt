-- `steady::steady_seconds::kept` meets its contract. Assumes nothing.
use Prim.Native.Nat.{min}
use mathlib.Core.Path.{◌≡◌, refl, ◌∙◌}
use native.Mathlib.Omega.{arith}
use Rattle.rules.specs.Share.{capacity}
use Rattle.gensets.proofs.FileCapacity.{capacity-most}
use Rattle.steady.proofs.steady_seconds.kept.Goals as goal

pub returns : goal.returns
returns c =
    let most = capacity-most c.args.st c.requires c.on_mask-on.result in
    let whole : min (capacity c.args.st.sets c.on_mask-on.result) 4_294_967_295 ≡ capacity c.args.st.sets c.on_mask-on.result = omega arith in (
      record { is-on = c.on_mask-on.ensures.value; is-cap = c.capacity_fitting.ensures ∙ whole; is-floor = c.floor_load.ensures; is-barred = c.barred_mask.ensures.value },
      refl,
      refl,
    )
