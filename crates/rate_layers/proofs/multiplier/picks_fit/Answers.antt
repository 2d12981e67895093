use Rattle.std.proofs.Common.{arith}
use Rattle.std.proofs.lemmas.Bool.{leb-true, le-leb}
use Rattle.rate_layers.proofs.Picks.{picks_down}
use Rattle.rate_layers.proofs.multiplier.picks_fit.Goals as goal

pub returns : goal.returns
returns c =
    let i = c.sums_of.ensures.picks in (
      λ h. (i.0, i.1, omega (arith, i.2, leb-true _ _ h)),
      λ f. le-leb _ _ (omega (arith, i.2, picks_down c.args.multiplier c.args.multiplier c.args.slices.now f.0 i.0 (omega arith) f.1 i.1, f.2)),
    )
