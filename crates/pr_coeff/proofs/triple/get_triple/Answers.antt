use Rattle.std.proofs.Common.{arith, ◌∙◌}
use Rattle.pw_bits.specs.Reading.{unread}
use Rattle.pr_coeff.specs.Reading.{triple_at, level_at}
use Rattle.pr_coeff.proofs.BitLemmas.{triple_past, triple_goes, run_fault, level_fault}
use Rattle.pr_coeff.proofs.triple.get_triple.Goals as goal

pub returns-then-run-room-clause-fault : goal.returns-then-run-room-clause-fault
returns-then-run-room-clause-fault g c = λ told.
    let w = (rw c.in-Ok-Some.field-0-is at c.in-Ok-Some.ensures.value) told in
    (w.0, triple_past c.book_of_run.result (unread c.args.reader.now (g.S.ByteSource.left c.args.source.now)) c.args.room c.args.run c.args.magnitude c.book_of_run.ensures.value c.in-Ok-Some.run' (unread c.get_word_or_end.new.reader (g.S.ByteSource.left c.get_word_or_end.new.source)) w.1 (omega arith))

pub returns-in-Ok-clause-value : goal.returns-in-Ok-clause-value
returns-in-Ok-clause-value g c = λ told.
    let w = (rw c.in-Ok-Some.field-0-is at c.in-Ok-Some.ensures.value) told in
    let level = c.in-Ok.ensures.value (c.in-Ok-Some.ensures.told told) c.in-Ok-Some.run' in
    (w.0, triple_goes c.book_of_run.result (unread c.args.reader.now (g.S.ByteSource.left c.args.source.now)) c.args.room c.args.run c.args.magnitude c.book_of_run.ensures.value c.in-Ok-Some.run' (unread c.get_word_or_end.new.reader (g.S.ByteSource.left c.get_word_or_end.new.source)) w.1 (omega arith) ∙ level)

pub returns-in-Err-get_level-clause-fault : goal.returns-in-Err-get_level-clause-fault
returns-in-Err-get_level-clause-fault g c = λ told.
    let w = (rw c.in-Ok-Some.field-0-is at c.in-Ok-Some.ensures.value) told in
    level_fault c.in-Err-get_level.fault (unread c.args.reader.now (g.S.ByteSource.left c.args.source.now)) (triple_at c.args.room c.args.run c.args.magnitude (unread c.args.reader.now (g.S.ByteSource.left c.args.source.now))) (level_at c.in-Ok-Some.run' c.args.magnitude (unread c.get_word_or_end.new.reader (g.S.ByteSource.left c.get_word_or_end.new.source))) w.0
    (triple_goes c.book_of_run.result (unread c.args.reader.now (g.S.ByteSource.left c.args.source.now)) c.args.room c.args.run c.args.magnitude c.book_of_run.ensures.value c.in-Ok-Some.run' (unread c.get_word_or_end.new.reader (g.S.ByteSource.left c.get_word_or_end.new.source)) w.1 (omega arith)) (c.in-Err-get_level.ensures.fault (c.in-Ok-Some.ensures.told told) c.in-Ok-Some.run')

pub returns-in-Err-clause-fault : goal.returns-in-Err-clause-fault
returns-in-Err-clause-fault g c = λ told. run_fault c.book_of_run.result (unread c.args.reader.now (g.S.ByteSource.left c.args.source.now)) c.args.room c.args.run c.args.magnitude c.book_of_run.ensures.value c.in-Err.fault (c.in-Err.ensures.fault told)
