use Rattle.std.proofs.Common.{◌≡◌, suc, ◌-◌, false, true, replicate, set, ap, ◌∙◌, arith}
use Rattle.rate_layers.proofs.InWords.{last_set}
use Rattle.rate_layers.proofs.live.last_marked.Goals as goal

pub returns : goal.returns
returns c =
    let n = c.args.count - 1 in
    let some : c.args.count ≡ suc n = omega (arith, c.requires) in
    c.set.ensures ∙ ap (λ l. set l n true) c.in_ok-marks.ensures ∙ ap (λ k. set (replicate k false) n true) some ∙ last_set n
