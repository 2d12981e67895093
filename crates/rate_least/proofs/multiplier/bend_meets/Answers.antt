use Rattle.std.proofs.Common.{arith}
use Rattle.std.proofs.lemmas.Bool.{leb-true, le-leb}
use Rattle.rate_least.proofs.Bends.{bend_meets}
use Rattle.rate_least.proofs.multiplier.bend_meets.Goals as goal

pub returns : goal.returns
returns c =
    let i = c.sums_of.ensures.bend in (
      λ h. (i.0, i.1, omega (arith, i.3, leb-true _ _ h)),
      λ f. le-leb _ _ (omega (arith, i.3, bend_meets c.args.slices.now c.args.cap c.args.multiplier i.0 i.1 f)),
    )
