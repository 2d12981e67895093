use Rattle.std.proofs.Common.{◌≡◌, ◌∷◌, length, ap, sym, ◌∙◌, IsSome}
use Rattle.std.proofs.lemmas.Result.{IfErr-weaker, on_ok_weaker}
use Rattle.pw_outside.specs.Reading.{bytes_of}
use Rattle.pw_bits.specs.Bits.{bits}
use Rattle.pw_bits.specs.Reading.{unread}
use Rattle.pr_alpha.specs.Alpha.{greatest}
use Rattle.pr_alpha.specs.Reading.{values_at, alpha_at}
use Rattle.pr_alpha.proofs.StepLemmas.{alpha_found}
use Rattle.pr_alpha.proofs.ReadLemmas.{fault_whole, whole_values}
use Rattle.pr_alpha.proofs.read.read_alpha.Goals as goal

pub returns-in-Ok-clause-stands : goal.returns-in-Ok-clause-stands
returns-in-Ok-clause-stands g c =
    let l = bits (bytes_of (g.S.ByteSource.left c.args.source.now)) in
    let m = unread c.bit.new.self (g.S.ByteSource.left c.bit.new.source) in
    let n = length c.get_values.new.values in
    let first : IsSome (g.S.ByteSource.left c.args.source.now) → l ≡ c.in-Ok.first ∷ m = λ told.
    ap (λ k. unread k (g.S.ByteSource.left c.args.source.now)) (sym c.new-reader.ensures) ∙ c.in-Ok.ensures.bit.bits told in
    on_ok_weaker c.get_values.result (λ value told.
    (alpha_found c.args.bits n l c.get_values.new.values (whole_values n c.args.bits l m c.in-Ok.first (first told) ∙ value (c.in-Ok.ensures.told told))).1) c.get_values.ensures.value

pub returns-in-Ok-clause-fault : goal.returns-in-Ok-clause-fault
returns-in-Ok-clause-fault g c =
    let l = bits (bytes_of (g.S.ByteSource.left c.args.source.now)) in
    let m = unread c.bit.new.self (g.S.ByteSource.left c.bit.new.source) in
    let n = length c.get_values.new.values in
    let first : IsSome (g.S.ByteSource.left c.args.source.now) → l ≡ c.in-Ok.first ∷ m = λ told.
    ap (λ k. unread k (g.S.ByteSource.left c.args.source.now)) (sym c.new-reader.ensures) ∙ c.in-Ok.ensures.bit.bits told in
    IfErr-weaker c.get_values.result _ _ (λ e f told.
    fault_whole e (values_at n c.args.bits (greatest c.args.bits) n (c.in-Ok.first ∷ m)) (alpha_at n c.args.bits l)
    (λ x p. whole_values n c.args.bits l m c.in-Ok.first (first told) ∙ p) (f (c.in-Ok.ensures.told told))) c.get_values.ensures.fault
