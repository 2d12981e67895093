use Rattle.std.proofs.Common.{rules, ap, sym, subst, ◌∙◌}
use Rattle.std.proofs.lemmas.Result.{err_from_is_err_and}
use Rattle.pw_outside.specs.Writing.{sink_state, Puts, PutsFront}
use Rattle.pw_outside.proofs.Puts.{puts_none, front_extends, then_extends}
use Rattle.rate_cert.specs.Head.{head_bytes}
use Rattle.rate_cert.specs.Files.{end_bytes}
use Rattle.run_look.specs.Ends.{AnswersUnlessOutside}
use Rattle.run_look.specs.Reproofing.{Reproofed, PutsUntil}
use Rattle.run_look.proofs.Texts.{extends_then}
use Rattle.run_look.proofs.Reproofed.{by_head, by_fault, fault_cert, head_part, err_cert, end_part, end_whole, text_done, same_said}
use Rattle.run_look.proofs.reproof.rewrite.Goals as goal

pub returns-in_err-reader-clause-answer : goal.returns-in_err-reader-clause-answer
returns-in_err-reader-clause-answer g c =
    let p = err_from_is_err_and c.from_residual.result c.from_residual.ensures.1 in
    rw (p.1, p.2) (λ h. by_fault _ c.in_err-reader.field-0.0 (c.in_err-reader.ensures.bytes.answer h))

pub returns-in_err-reader-clause-cert : goal.returns-in_err-reader-clause-cert
returns-in_err-reader-clause-cert g c =
    let p = err_from_is_err_and c.from_residual.result c.from_residual.ensures.1 in
    rw (p.1, p.2) (λ h. fault_cert _ c.in_err-reader.field-0.0 _ (c.in_err-reader.ensures.bytes.answer h) (puts_none _ (search rules)))

pub returns-in_default-clause-cert : goal.returns-in_default-clause-cert
returns-in_default-clause-cert g c = λ h.
    let a = sink_state (g.K.ByteSink.held c.args.cert.now) (g.K.ByteSink.taken c.args.cert.now) in
    let b = sink_state (g.K.ByteSink.held c.begin.new.sink) (g.K.ByteSink.taken c.begin.new.sink) in
    subst (λ (x : Reproofed). PutsFront a b x.cert) (sym (by_head _ _ _ _ (c.in_ok-reader.ensures.bytes.answer h)))
    (head_part _ _ a b (rw c.settings-settings.ensures.value at c.in_default.ensures.err))

pub returns-in_err-records-clause-answer : goal.returns-in_err-records-clause-answer
returns-in_err-records-clause-answer g c =
    let p = err_from_is_err_and c.from_residual-in_err-records.result c.from_residual-in_err-records.ensures.1 in
    rw (p.1, p.2) (λ h. subst (λ (x : Reproofed). AnswersUnlessOutside c.in_err-records.field-0.0 x.end) (sym (by_head _ _ _ _ (c.in_ok-reader.ensures.bytes.answer h)))
    (c.in_err-records.ensures.answer (c.in_ok-reader.ensures.bytes.told h)))

pub returns-in_err-records-clause-cert : goal.returns-in_err-records-clause-cert
returns-in_err-records-clause-cert g c =
    let p = err_from_is_err_and c.from_residual-in_err-records.result c.from_residual-in_err-records.ensures.1 in
    let a = sink_state (g.K.ByteSink.held c.args.cert.now) (g.K.ByteSink.taken c.args.cert.now) in
    let b = sink_state (g.K.ByteSink.held c.begin.new.sink) (g.K.ByteSink.taken c.begin.new.sink) in
    let d = sink_state (g.K.ByteSink.held c.rewrite_records.new.cert) (g.K.ByteSink.taken c.rewrite_records.new.cert) in
    let head : Puts a b (head_bytes 2 c.in_ok-reader.reader.settings) = rw c.settings-settings.ensures.value at c.in-Ok.ensures.ok in
    rw (p.1, p.2) (λ h. subst (λ (x : Reproofed). PutsUntil c.in_err-records.field-0.0 x.cert a d) (sym (by_head _ _ _ _ (c.in_ok-reader.ensures.bytes.answer h)))
    (err_cert _ _ c.in_err-records.field-0.0 a b d head c.in_err-records.ensures.not_done (c.in_err-records.ensures.answer (c.in_ok-reader.ensures.bytes.told h)) (c.in_err-records.ensures.cert (c.in_ok-reader.ensures.bytes.told h))))

pub returns-in_err-records-clause-extends : goal.returns-in_err-records-clause-extends
returns-in_err-records-clause-extends g c = extends_then _ _ _ _ c.in-Ok.ensures.ok c.in_err-records.ensures.extends

pub returns-in-Ok-close-clause-answer : goal.returns-in-Ok-close-clause-answer
returns-in-Ok-close-clause-answer g c = λ h.
    sym (ap (λ (x : Reproofed). x.end) (by_head _ _ _ _ (c.in_ok-reader.ensures.bytes.answer h)) ∙ (c.in_ok-records.ensures.answer (c.in_ok-reader.ensures.bytes.told h)).0)

pub returns-in-Ok-close-clause-count : goal.returns-in-Ok-close-clause-count
returns-in-Ok-close-clause-count g c = λ h.
    ap (λ (x : Reproofed). x.text) (by_head _ _ _ _ (c.in_ok-reader.ensures.bytes.answer h))
    ∙ text_done c.in_ok-reader.reader.settings _ c.in_ok-records.records (c.in_ok-records.ensures.answer (c.in_ok-reader.ensures.bytes.told h))

pub returns-in-Ok-close-clause-cert : goal.returns-in-Ok-close-clause-cert
returns-in-Ok-close-clause-cert g c = λ h.
    let a = sink_state (g.K.ByteSink.held c.args.cert.now) (g.K.ByteSink.taken c.args.cert.now) in
    let b = sink_state (g.K.ByteSink.held c.begin.new.sink) (g.K.ByteSink.taken c.begin.new.sink) in
    let d = sink_state (g.K.ByteSink.held c.rewrite_records.new.cert) (g.K.ByteSink.taken c.rewrite_records.new.cert) in
    let e = sink_state (g.K.ByteSink.held c.close.new.cert) (g.K.ByteSink.taken c.close.new.cert) in
    let head : Puts a b (head_bytes 2 c.in_ok-reader.reader.settings) = rw c.settings-settings.ensures.value at c.in-Ok.ensures.ok in
    let end : Puts d e (end_bytes c.in_ok-records.records) = rw c.in_ok-records.ensures.few.1 at c.in-Ok-close.ensures.ok in
    subst (λ (x : Reproofed). Puts a e x.cert) (sym (by_head _ _ _ _ (c.in_ok-reader.ensures.bytes.answer h)))
    (end_whole _ _ c.in_ok-records.records a b d e (c.in_ok-records.ensures.answer (c.in_ok-reader.ensures.bytes.told h)) head (c.in_ok-records.ensures.cert (c.in_ok-reader.ensures.bytes.told h)) end)

pub returns-in-Ok-close-clause-same : goal.returns-in-Ok-close-clause-same
returns-in-Ok-close-clause-same g c = λ h.
    same_said _ c.in_ok-reader.reader.format c.in_ok-reader.reader.settings _ (c.in_ok-reader.ensures.bytes.answer h) c.in_ok-reader.ensures.settings
    (c.in_ok-records.ensures.answer (c.in_ok-reader.ensures.bytes.told h)).0 (c.in_ok-records.ensures.written (c.in_ok-reader.ensures.bytes.told h))

pub returns-in-Ok-close-clause-extends : goal.returns-in-Ok-close-clause-extends
returns-in-Ok-close-clause-extends g c = then_extends _ _ _ (extends_then _ _ _ _ c.in-Ok.ensures.ok c.in_ok-records.ensures.extends) (_, c.in-Ok-close.ensures.ok)

pub returns-in-Err-clause-cert : goal.returns-in-Err-clause-cert
returns-in-Err-clause-cert g c = λ h.
    let a = sink_state (g.K.ByteSink.held c.args.cert.now) (g.K.ByteSink.taken c.args.cert.now) in
    let b = sink_state (g.K.ByteSink.held c.begin.new.sink) (g.K.ByteSink.taken c.begin.new.sink) in
    let d = sink_state (g.K.ByteSink.held c.rewrite_records.new.cert) (g.K.ByteSink.taken c.rewrite_records.new.cert) in
    let e = sink_state (g.K.ByteSink.held c.close.new.cert) (g.K.ByteSink.taken c.close.new.cert) in
    let head : Puts a b (head_bytes 2 c.in_ok-reader.reader.settings) = rw c.settings-settings.ensures.value at c.in-Ok.ensures.ok in
    let end : PutsFront d e (end_bytes c.in_ok-records.records) = rw c.in_ok-records.ensures.few.1 at c.in-Err.ensures.err in
    subst (λ (x : Reproofed). PutsFront a e x.cert) (sym (by_head _ _ _ _ (c.in_ok-reader.ensures.bytes.answer h)))
    (end_part _ _ c.in_ok-records.records a b d e (c.in_ok-records.ensures.answer (c.in_ok-reader.ensures.bytes.told h)) head (c.in_ok-records.ensures.cert (c.in_ok-reader.ensures.bytes.told h)) end)

pub returns-in-Err-clause-extends : goal.returns-in-Err-clause-extends
returns-in-Err-clause-extends g c = then_extends _ _ _ (extends_then _ _ _ _ c.in-Ok.ensures.ok c.in_ok-records.ensures.extends) (front_extends _ _ _ c.in-Err.ensures.err)
