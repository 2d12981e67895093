use Rattle.std.proofs.Common.{◌+◌, ◌∙◌, Ok, ap, sym, arith}
use Rattle.std.proofs.lemmas.Result.{IfOk-weaker, IfErr-weaker}
use Rattle.pw_bits.specs.Reading.{unread}
use Rattle.pr_alpha.specs.Reading.{Fault, Found, value_behind, run_at, step_behind}
use Rattle.pr_alpha.proofs.ReadLemmas.{fault_whole, past_is, step_fails, step_last, step_run, step_past, step_run_fails}
use Rattle.pr_alpha.proofs.read.get_row.Goals as goal

pub returns-in-Err-clause-fault : goal.returns-in-Err-clause-fault
returns-in-Err-clause-fault g c = λ told.
    let l = unread c.args.reader.now (g.S.ByteSource.left c.args.source.now) in
    fault_whole c.in-Err.fault (value_behind c.args.bits c.args.before c.args.long l) (step_behind c.args.bits c.args.before c.args.wanting c.args.long l)
    (step_fails c.args.bits c.args.before c.args.wanting c.args.long l) (c.in-Err.ensures.fault told)

pub returns-then-wanting-le1-clause-value : goal.returns-then-wanting-le1-clause-value
returns-then-wanting-le1-clause-value g c = λ told.
    let l = unread c.args.reader.now (g.S.ByteSource.left c.args.source.now) in
    step_last c.args.bits c.args.before c.args.wanting c.args.long l c.in-Ok.value (unread c.get_value.new.reader (g.S.ByteSource.left c.get_value.new.source)) (c.in-Ok.ensures.value told) (omega arith)

pub returns-in-Ok-get_run-clause-value : goal.returns-in-Ok-get_run-clause-value
returns-in-Ok-get_run-clause-value g c =
    let l = unread c.args.reader.now (g.S.ByteSource.left c.args.source.now) in
    let m = unread c.get_value.new.reader (g.S.ByteSource.left c.get_value.new.source) in
    let rest = unread c.get_run.new.reader (g.S.ByteSource.left c.get_run.new.source) in
    IfOk-weaker c.row_of.result _ _ (λ r is told.
    step_run c.args.bits c.args.before c.args.wanting c.args.long l c.in-Ok.value c.in-Ok-get_run.run' m rest (c.in-Ok.ensures.value told) (omega arith) (c.in-Ok-get_run.ensures.value (c.in-Ok.ensures.told told)) is.2
    ∙ ap (λ v. Ok (let f : Found = record { value = v; count = c.in-Ok-get_run.run' + 1; rest = rest } in f)) (sym is.0)
    ∙ ap (λ k. Ok (let f : Found = record { value = r.value; count = k; rest = rest } in f)) (sym is.1)) c.row_of.ensures.value

pub returns-in-Ok-get_run-clause-fault : goal.returns-in-Ok-get_run-clause-fault
returns-in-Ok-get_run-clause-fault g c =
    let l = unread c.args.reader.now (g.S.ByteSource.left c.args.source.now) in
    let m = unread c.get_value.new.reader (g.S.ByteSource.left c.get_value.new.source) in
    let rest = unread c.get_run.new.reader (g.S.ByteSource.left c.get_run.new.source) in
    IfErr-weaker c.row_of.result _ _ (λ e is told.
    past_is e (step_behind c.args.bits c.args.before c.args.wanting c.args.long l) is.0
    (step_past c.args.bits c.args.before c.args.wanting c.args.long l c.in-Ok.value c.in-Ok-get_run.run' m rest (c.in-Ok.ensures.value told) (omega arith) (c.in-Ok-get_run.ensures.value (c.in-Ok.ensures.told told)) is.1)) c.row_of.ensures.fault

pub returns-in-Err-get_run-clause-fault : goal.returns-in-Err-get_run-clause-fault
returns-in-Err-get_run-clause-fault g c = λ told.
    let l = unread c.args.reader.now (g.S.ByteSource.left c.args.source.now) in
    let m = unread c.get_value.new.reader (g.S.ByteSource.left c.get_value.new.source) in
    fault_whole c.in-Err-get_run.fault (run_at m) (step_behind c.args.bits c.args.before c.args.wanting c.args.long l)
    (λ (x : Fault) e. step_run_fails c.args.bits c.args.before c.args.wanting c.args.long l c.in-Ok.value m x (c.in-Ok.ensures.value told) (omega arith) e) (c.in-Err-get_run.ensures.fault (c.in-Ok.ensures.told told))
