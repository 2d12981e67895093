use Rattle.std.proofs.Common.{◌≡◌, subst, Err}
use Rattle.std.specs.Prelude.{IfSome}
use Rattle.pw_outside.specs.Reading.{rest_of}
use Rattle.pic_y4m.specs.Faults.{told_fault}
use Rattle.pic_raw.specs.Any.{next_of, place_of}
use Rattle.run_look.proofs.Agreed.{gives_fault, gives_next}
use Rattle.run_look.proofs.agreeing.next_picture.Goals as goal

pub returns-in-Ok-clause-gives : goal.returns-in-Ok-clause-gives
returns-in-Ok-clause-gives g c = λ told given n are.
    gives_next c.next_is_first.ensures c.args.reader.now c.next.new.self (rest_of (place_of c.args.reader.now) (g.S.ByteSource.left c.args.pictures.now)) (g.S.ByteSource.left c.next.new.source) given n c.in-Ok.picture c.requires.reader
    c.in-Ok.ensures.after (c.in-Ok.ensures.bytes.answer told) are

pub returns-in-Err-Bad-clause-gives : goal.returns-in-Err-Bad-clause-gives
returns-in-Err-Bad-clause-gives g c = λ told given n are.
    let found = subst (λ e. IfSome (told_fault e) (λ f. next_of c.args.reader.now (rest_of (place_of c.args.reader.now) (g.S.ByteSource.left c.args.pictures.now)) ≡ Err f)) c.in-Err-Bad.field-0-is (c.in-Err-Bad.ensures.bytes.answer told) in
    gives_fault c.next_is_first.ensures c.args.reader.now (rest_of (place_of c.args.reader.now) (g.S.ByteSource.left c.args.pictures.now)) given n (record { kind = c.in-Err-Bad.kind; place = c.in-Err-Bad.place }) c.requires.reader found are
