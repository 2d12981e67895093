use Rattle.std.proofs.Common.{rules, ◌∙◌, ◌+◌, ◌*◌, nat_lt}
use Rattle.std.proofs.lemmas.Fn.{filter_same}
use Rattle.std.proofs.lemmas.Bool.{ltb_from_iff}
use Rattle.rate_least.proofs.narrowed.keep_within.Goals as goal

pub returns : goal.returns
returns c = c.shrink_to_fit.ensures.items ∙ filter_same _ (λ p. nat_lt (p.error + c.args.multiplier * p.size) c.args.ceiling) _ (λ p b f k. search (rules, ltb_from_iff)) _ _ c.retain.ensures.filtered
