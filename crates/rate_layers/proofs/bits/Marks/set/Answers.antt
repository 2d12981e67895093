use Rattle.std.proofs.Common.{◌≡◌, ◌/◌, ◌<◌, length, set, true, ap, ◌∙◌, arith}
use Rattle.std.proofs.lemmas.List.{get_or_default}
use Rattle.rate_layers.specs.inner.Bits.{marks_in}
use Rattle.rate_layers.proofs.InWords.{marks_length, has_word, set_one}
use Rattle.rate_layers.proofs.bits.Marks.set.Goals as goal

pub index_mut-requires : goal.index_mut-requires
index_mut-requires c =
    let words = c.self.inside.words.items in
    let count = c.self.inside.count in
    let is : marks_in words count ≡ c.args.self.now = c.self.view_is in
    omega (arith, has_word words count c.args.number (omega (arith, c.requires, ap length is, marks_length words count)) c.self.invariant, c.self.inside.words.ok.0)

pub returns : goal.returns
returns c =
    let words = c.self.inside.words.items in
    let count = c.self.inside.count in
    let i = c.args.number in
    let w = c.index_mut.result.now in
    let is : marks_in words count ≡ c.args.self.now = c.self.view_is in
    let n : i < count = omega (arith, c.requires, ap length is, marks_length words count) in
    set_one words count i w n c.self.invariant (c.index_mut.ensures.value ∙ get_or_default words (i / 64) w 0 (has_word words count i n c.self.invariant))
    ∙ ap (λ l. set l i true) is
