use Rattle.std.proofs.Common.{◌≡◌, replicate, ap, ◌∙◌, arith}
use Rattle.std.proofs.lemmas.Grind.{div_ceil_times}
use Rattle.rate_layers.specs.inner.Bits.{marks_in}
use Rattle.rate_layers.proofs.InWords.{none_set}
use Rattle.rate_layers.proofs.bits.Marks.new.Goals as goal

pub returns : goal.returns
returns c =
    let zeros : c.in_ok-words.words.items ≡ replicate c.div_ceil.result 0 = c.in_ok-words.ensures.items_if_clones_equal (λ y h. h) in
    ap (λ l. marks_in l c.args.count) zeros
    ∙ none_set c.div_ceil.result c.args.count (omega (arith, c.div_ceil.ensures, (div_ceil_times c.args.count 64 (omega arith)).0))
