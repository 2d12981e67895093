use Rattle.std.proofs.Common.{rules, subst}
use Rattle.std.specs.Bool.{OnTrue}
use Rattle.std.proofs.lemmas.Bool.{OnTrue_from}
use Rattle.pw_outside.specs.Reading.{Told}
use Rattle.pw_outside.specs.Writing.{sink_state, Puts}
use Rattle.pw_outside.proofs.Puts.{puts_none}
use Rattle.run_look.specs.Ends.{is_done}
use Rattle.run_look.specs.Reproofing.{reproofed, PutsUntil, IsProofIn}
use Rattle.run_look.specs.inner.Through.{GaveBytes-same}
use Rattle.run_look.proofs.Gave.{gave_all}
use Rattle.run_look.proofs.Staying.{same_put}
use Rattle.run_look.proofs.Reproofed.{printed_cert, no_text}
use Rattle.run_look.proofs.reproof.reproof_run.Goals as goal

pub returns-in-Ok-clause-cert : goal.returns-in-Ok-clause-cert
returns-in-Ok-clause-cert g c =
    let a = sink_state (g.K.ByteSink.held c.args.cert.now) (g.K.ByteSink.taken c.args.cert.now) in
    let b = sink_state (g.K.ByteSink.held c.rewrite.new.cert) (g.K.ByteSink.taken c.rewrite.new.cert) in
    subst (λ s. Told (g.S.ByteSource.left s) (λ bytes. PutsUntil c.print_records.result (reproofed bytes).cert a b)) c.new-through.ensures.untouched
    (λ h. printed_cert c.print_records.result _ a b (c.in-Ok.ensures.cert h))

pub returns-in-Ok-clause-unchanged : goal.returns-in-Ok-clause-unchanged
returns-in-Ok-clause-unchanged g c =
    let a = sink_state (g.K.ByteSink.held c.args.cert.now) (g.K.ByteSink.taken c.args.cert.now) in
    let b = sink_state (g.K.ByteSink.held c.rewrite.new.cert) (g.K.ByteSink.taken c.rewrite.new.cert) in
    let t = c.new-through.result in
    let gave = c.in-Ok.ensures.becomes t (GaveBytes-same (g.S.ByteSource.left t.source.now) t.source.ghost_name) in
    subst (λ s. Told (g.S.ByteSource.left s) (λ bytes. OnTrue (is_done c.print_records.result) (IsProofIn 2 bytes → Puts a b bytes))) c.new-through.ensures.untouched
    (λ h. OnTrue_from (is_done c.print_records.result) _ (λ _ is. same_put _ a b (gave_all _ _ _ _ gave c.in-Ok.ensures.whole h) is (c.in-Ok.ensures.cert h)))

pub returns-in-Err-clause-text : goal.returns-in-Err-clause-text
returns-in-Err-clause-text g c =
    let a = sink_state (g.K.ByteSink.held c.args.text.now) (g.K.ByteSink.taken c.args.text.now) in
    subst (λ s. Told (g.S.ByteSource.left s) (λ bytes. PutsUntil c.in-Err.end (reproofed bytes).text a a)) c.new-through.ensures.untouched
    (λ h. no_text _ c.in-Err.end a c.in-Err.ensures.not_done (c.in-Err.ensures.answer h) (puts_none a (search rules)))
