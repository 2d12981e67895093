use Rattle.std.proofs.Common.{◌+◌, ◌-◌, take, ap, ◌∙◌}
use borrow.Rule.Slice.PartMut.{put_mid, post_of}
use Rattle.pw_bits.specs.Bits.{bits}
use Rattle.pw_bits.proofs.SpelledLemmas.{store_bits}
use Rattle.pw_bits.proofs.spelled.store.Goals as goal

pub returns : goal.returns
returns c = λ w h.
    let at = c.args.at in
    let out = c.args.out.now in
    let k = at + 8 - at in
    ap (λ e. bits (take (at + w) (put_mid at k out e))) (c.copy_from_slice.ensures.after ∙ c.to_be_bytes.ensures) ∙ store_bits out (post_of at k out) at w c.args.value c.requires h
