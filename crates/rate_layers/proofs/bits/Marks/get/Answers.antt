use Rattle.std.proofs.Common.{◌≡◌, ◌/◌, ◌%◌, ◌<◌, length, get_or, false, nat_eq, sym, ap, ◌∙◌, arith}
use Rattle.std.specs.Int.{bit_at}
use Rattle.std.proofs.lemmas.List.{get_or_default}
use Rattle.std.proofs.lemmas.Nat.Bits.{shr_and_one}
use Rattle.rate_layers.specs.inner.Bits.{marks_in}
use Rattle.rate_layers.proofs.InWords.{marks_length, mark_at, has_word}
use Rattle.rate_layers.proofs.bits.Marks.get.Goals as goal

pub index-requires : goal.index-requires
index-requires c =
    let words = c.self.inside.words.items in
    let count = c.self.inside.count in
    let is : marks_in words count ≡ c.args.self.now = c.self.view_is in
    omega (arith, has_word words count c.args.number (omega (arith, c.requires, ap length is, marks_length words count)) c.self.invariant, c.self.inside.words.ok.0)

pub returns : goal.returns
returns c =
    let words = c.self.inside.words.items in
    let count = c.self.inside.count in
    let i = c.args.number in
    let w = c.index.result.now in
    let is : marks_in words count ≡ c.args.self.now = c.self.view_is in
    let n : i < count = omega (arith, c.requires, ap length is, marks_length words count) in
    ap (λ b. nat_eq b 1) (shr_and_one w (i % 64))
    ∙ ap (λ v. nat_eq (bit_at v (i % 64)) 1) (c.index.ensures ∙ get_or_default words (i / 64) w 0 (has_word words count i n c.self.invariant))
    ∙ sym (mark_at words count i false n) ∙ ap (λ l. get_or l i false) is
