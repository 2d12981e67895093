use Rattle.std.proofs.Common.{rules, ◌≡◌, ◌+◌, ◌≤◌, length, subst, Ok, Some}
use Rattle.qt_tables.specs.Samples.{samples}
use Rattle.run_look.specs.Agreeing.{left_by, AreLeft, picture_in, GivesPicture}
use Rattle.run_look.proofs.Agreed.{further_picture}
use Rattle.run_look.proofs.agreeing.take_end.Goals as goal

pub returns-clause-takes : goal.returns-clause-takes
returns-clause-takes g c = λ told given same are.
    let n = c.args.frames in
    let left = left_by c.next_picture.new.reader (g.S.ByteSource.left c.next_picture.new.pictures) in
    let all : length (samples c.args.reader.now.tables) ≤ c.args.frames = search rules in
    let both : (picture_in given n ≡ Ok (Some c.in-Some.field-0)) × AreLeft given (n + 1) left =
    subst (λ o. GivesPicture given n (Ok o) left) c.in-Some.is (c.in_ok-next_picture.ensures.gives told given n are) in
    further_picture given (samples c.args.reader.now.tables) n c.in-Some.field-0 same all both.0
