-- `commitment::configuration::mask_called` meets its contract. Assumes nothing.
use Rattle.std.proofs.Common.{◌≡◌, ◌-◌, length, get_or, arith, w8, Fits, rules}
use Rattle.rules.specs.Configuration.{mask_called}
use Rattle.commitment.proofs.Choices.{mask-some, mask-past}
use Rattle.commitment.proofs.configuration.mask_called.Goals as goal

pub returns-then-called-eq0 : goal.returns-then-called-eq0
unfolding mask_called
returns-then-called-eq0 c = record { value = rw c.if-called-eq0.true; upper_bound = omega arith }

pub returns-then-called-gt-CONFIGURATIONS_MOST : goal.returns-then-called-gt-CONFIGURATIONS_MOST
returns-then-called-gt-CONFIGURATIONS_MOST c = let l : length c.args.configs ≡ 64 = search rules in record { value = mask-past _ _ (omega arith); upper_bound = omega arith }

pub returns : goal.returns
returns c =
    let fits : Fits w8 (get_or c.args.configs (c.args.called - 1) 0) = search rules in
    record { value = mask-some _ _ c.if-called-eq0.false; upper_bound = fits.fits }
