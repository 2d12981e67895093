use Rattle.std.proofs.Common.{◌≡◌, ◌∷◌, ◌∙◌, Ok, false, ap, arith}
use Rattle.std.proofs.lemmas.Result.{IfOk-weaker, IfErr-weaker}
use Rattle.pw_bits.specs.Reading.{unread}
use Rattle.pr_alpha.specs.Reading.{number_at, run_at}
use Rattle.pr_alpha.proofs.ReadLemmas.{fault_whole, end_whole, run_none, run_end, run_brief, run_wide, run_fails}
use Rattle.pr_alpha.proofs.read.get_run.Goals as goal

pub returns-in-Ok-true-clause-value : goal.returns-in-Ok-true-clause-value
returns-in-Ok-true-clause-value g c = λ told.
    run_none (unread c.args.reader.now (g.S.ByteSource.left c.args.source.now)) (unread c.get_bit.new.reader (g.S.ByteSource.left c.get_bit.new.source))
    (c.in-Ok-true.ensures.value told ∙ ap (λ b. b ∷ unread c.get_bit.new.reader (g.S.ByteSource.left c.get_bit.new.source)) c.in-Ok-true.field-0-test)

pub returns-in-Err-clause-fault : goal.returns-in-Err-clause-fault
returns-in-Err-clause-fault g c = λ told.
    let l = unread c.args.reader.now (g.S.ByteSource.left c.args.source.now) in
    end_whole c.in-Err.fault l (run_at l) (run_end l) (c.in-Err.ensures.fault told)

pub returns-in-Ok-eq0-clause-value : goal.returns-in-Ok-eq0-clause-value
returns-in-Ok-eq0-clause-value g c =
    let l = unread c.args.reader.now (g.S.ByteSource.left c.args.source.now) in
    let m = unread c.get_bit.new.reader (g.S.ByteSource.left c.get_bit.new.source) in
    let rest = unread c.get_number.new.reader (g.S.ByteSource.left c.get_number.new.source) in
    IfOk-weaker c.get_number-in-Ok-eq0.result _ _ (λ k is told.
    let first : l ≡ false ∷ m = c.in-Ok-false.ensures.value told ∙ ap (λ b. b ∷ m) c.in-Ok-false.field-0-test in
    let zero4 : c.in-Ok-eq0.field-0 ≡ 0 = omega arith in
    run_wide l m rest first (c.in-Ok-eq0.ensures.value (c.in-Ok-false.ensures.told told) ∙ ap (λ k. Ok (k, rest)) zero4)
    ∙ is (c.in-Ok-eq0.ensures.told (c.in-Ok-false.ensures.told told))) c.get_number-in-Ok-eq0.ensures.value

pub returns-in-Ok-eq0-clause-fault : goal.returns-in-Ok-eq0-clause-fault
returns-in-Ok-eq0-clause-fault g c =
    let l = unread c.args.reader.now (g.S.ByteSource.left c.args.source.now) in
    let m = unread c.get_bit.new.reader (g.S.ByteSource.left c.get_bit.new.source) in
    let rest = unread c.get_number.new.reader (g.S.ByteSource.left c.get_number.new.source) in
    IfErr-weaker c.get_number-in-Ok-eq0.result _ _ (λ e is told.
    let first : l ≡ false ∷ m = c.in-Ok-false.ensures.value told ∙ ap (λ b. b ∷ m) c.in-Ok-false.field-0-test in
    let zero4 : c.in-Ok-eq0.field-0 ≡ 0 = omega arith in
    fault_whole e (number_at 11 rest) (run_at l)
    (λ x f. run_wide l m rest first (c.in-Ok-eq0.ensures.value (c.in-Ok-false.ensures.told told) ∙ ap (λ k. Ok (k, rest)) zero4) ∙ f)
    (is (c.in-Ok-eq0.ensures.told (c.in-Ok-false.ensures.told told)))) c.get_number-in-Ok-eq0.ensures.fault

pub returns-in-Ok-clause-value : goal.returns-in-Ok-clause-value
returns-in-Ok-clause-value g c = λ told.
    let l = unread c.args.reader.now (g.S.ByteSource.left c.args.source.now) in
    let m = unread c.get_bit.new.reader (g.S.ByteSource.left c.get_bit.new.source) in
    let rest = unread c.get_number.new.reader (g.S.ByteSource.left c.get_number.new.source) in
    let first : l ≡ false ∷ m = c.in-Ok-false.ensures.value told ∙ ap (λ b. b ∷ m) c.in-Ok-false.field-0-test in
    run_brief l m rest c.in-Ok.run' first (c.in-Ok.ensures.value (c.in-Ok-false.ensures.told told)) (λ e. omega arith)

pub returns-in-Err-get_number-clause-fault : goal.returns-in-Err-get_number-clause-fault
returns-in-Err-get_number-clause-fault g c = λ told.
    let l = unread c.args.reader.now (g.S.ByteSource.left c.args.source.now) in
    let m = unread c.get_bit.new.reader (g.S.ByteSource.left c.get_bit.new.source) in
    let first : l ≡ false ∷ m = c.in-Ok-false.ensures.value told ∙ ap (λ b. b ∷ m) c.in-Ok-false.field-0-test in
    fault_whole c.in-Err-get_number.fault (number_at 4 m) (run_at l) (λ x f. run_fails l m x first f) (c.in-Err-get_number.ensures.fault (c.in-Ok-false.ensures.told told))
