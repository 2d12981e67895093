use Rattle.std.proofs.Common.{◌≡◌, ◌+◌, ◌*◌, ◌++◌, pos, length, replicate, arith, refl, sym, ap, ◌∙◌, Ok, IsSome}
use Rattle.std.proofs.lemmas.Result.{IfErr-weaker}
use Rattle.pw_outside.specs.Reading.{bytes_of}
use Rattle.pw_bits.specs.Bits.{bits}
use Rattle.pw_bits.specs.Reading.{unread}
use Rattle.pr_coeff.specs.Component.{places}
use Rattle.pr_coeff.specs.Reading.{all_firsts_at, values_at, component_at}
use Rattle.pr_coeff.proofs.FirstLemmas.{fault_whole}
use Rattle.pr_coeff.proofs.WholeLemmas.{scan_of, component_found, whole_is, firsts_fail, values_fail, on_ok_two}
use Rattle.pr_coeff.proofs.component.read_component.Goals as goal

pub returns-in-Ok-clause-stands : goal.returns-in-Ok-clause-stands
returns-in-Ok-clause-stands g c =
    let scan = places c.args.scan in
    let l = bits (bytes_of (g.S.ByteSource.left c.args.source.now)) in
    let l1 = unread c.get_firsts.new.reader (g.S.ByteSource.left c.get_firsts.new.source) in
    let first = c.in-Ok.ensures.value in
    let n = length c.get_values.new.blocks in
    let size : length c.get_firsts.new.blocks ≡ n = omega arith in
    let firsts : IsSome (g.S.ByteSource.left c.args.source.now) → all_firsts_at n l ≡ Ok (first.0, l1) = λ told.
    ap (λ m. all_firsts_at m l) (sym size) ∙ ap (λ k. all_firsts_at (length c.get_firsts.new.blocks) (unread k (g.S.ByteSource.left c.args.source.now))) (sym c.new-reader.ensures) ∙ first.3 told in
    on_ok_two c.get_values.result (λ blocks value told.
    let v = value first.0 (first.1 ∙ size) (first.2 ∙ ap (λ m. first.0 ++ replicate (63 * m) (pos 0)) size) in
    let is : component_at n scan l ≡ Ok c.get_values.new.blocks =
    whole_is scan n l c.get_values.new.blocks first.0 v.0 l1 (scan_of c.args.scan) blocks refl (firsts told) (v.2 (c.in-Ok.ensures.told told)) v.1 in
    (component_found scan l c.get_values.new.blocks n (scan_of c.args.scan) (omega (arith, c.requires.count.0)) is).1) c.get_values.ensures.blocks c.get_values.ensures.value

pub returns-in-Ok-clause-fault : goal.returns-in-Ok-clause-fault
returns-in-Ok-clause-fault g c =
    let scan = places c.args.scan in
    let l = bits (bytes_of (g.S.ByteSource.left c.args.source.now)) in
    let l1 = unread c.get_firsts.new.reader (g.S.ByteSource.left c.get_firsts.new.source) in
    let first = c.in-Ok.ensures.value in
    let n = length c.get_values.new.blocks in
    let size : length c.get_firsts.new.blocks ≡ n = omega arith in
    let firsts : IsSome (g.S.ByteSource.left c.args.source.now) → all_firsts_at n l ≡ Ok (first.0, l1) = λ told.
    ap (λ m. all_firsts_at m l) (sym size) ∙ ap (λ k. all_firsts_at (length c.get_firsts.new.blocks) (unread k (g.S.ByteSource.left c.args.source.now))) (sym c.new-reader.ensures) ∙ first.3 told in
    IfErr-weaker c.get_values.result _ _ (λ e f told.
    fault_whole e (values_at (63 * n + 1) (63 * n) 4 2 l1) (component_at n scan l) (λ x p. values_fail scan n l first.0 l1 x (firsts told) p) (f (c.in-Ok.ensures.told told))) c.get_values.ensures.fault

pub returns-in-Err-clause-fault : goal.returns-in-Err-clause-fault
returns-in-Err-clause-fault g c = λ told.
    let scan = places c.args.scan in
    let l = bits (bytes_of (g.S.ByteSource.left c.args.source.now)) in
    let n = length c.get_firsts.new.blocks in
    fault_whole c.in-Err.fault (all_firsts_at n (unread c.new-reader.result (g.S.ByteSource.left c.args.source.now))) (component_at n scan l)
    (λ x p. firsts_fail scan n l x (ap (λ k. all_firsts_at n (unread k (g.S.ByteSource.left c.args.source.now))) (sym c.new-reader.ensures) ∙ p)) (c.in-Err.ensures.fault told)
