use Rattle.std.proofs.Common.{◌≡◌, ◌+◌, refl, inr, subst, Ok, Some}
use Rattle.rate_check.proofs.Answered.{granted, denied}
use Rattle.run_look.specs.Agreeing.{left_by, AreLeft, picture_in, GivesPicture}
use Rattle.run_look.proofs.Agreed.{disagrees, picture_agrees}
use Rattle.run_look.proofs.agreeing.take_picture.Goals as goal

pub returns-in-Ok-true-clause-takes : goal.returns-in-Ok-true-clause-takes
returns-in-Ok-true-clause-takes g c = λ told given are frame.
    let n = c.args.first + c.args.k in
    let left = left_by c.next_picture.new.reader (g.S.ByteSource.left c.next_picture.new.pictures) in
    let both : (picture_in given n ≡ Ok (Some c.in-Some.picture)) × AreLeft given (n + 1) left =
    subst (λ o. GivesPicture given n (Ok o) left) c.in-Some.is (c.in_ok-picture.ensures.gives told given n are) in
    (picture_agrees given c.args.layout.now c.args.settings.now c.args.group.now c.args.first c.args.k c.args.frame.now c.in-Some.picture frame both.0 (granted c.in-Ok-true.field-0 c.in-Ok-true.ensures c.in-Ok-true.field-0-test), both.1)

pub returns-in-Ok-false-clause-takes : goal.returns-in-Ok-false-clause-takes
returns-in-Ok-false-clause-takes g c = λ told given are frame.
    let n = c.args.first + c.args.k in
    let left = left_by c.next_picture.new.reader (g.S.ByteSource.left c.next_picture.new.pictures) in
    let both : (picture_in given n ≡ Ok (Some c.in-Some.picture)) × AreLeft given (n + 1) left =
    subst (λ o. GivesPicture given n (Ok o) left) c.in-Some.is (c.in_ok-picture.ensures.gives told given n are) in (
      refl,
      refl,
      inr (
        c.in-Some.picture,
        both.0,
        disagrees c.one_frame.ensures given c.args.layout.now c.args.settings.now c.args.group.now c.args.first c.args.k c.args.frame.now c.in-Some.picture frame both.0
            (denied c.in-Ok-false.field-0 c.in-Ok-false.ensures c.in-Ok-false.field-0-test),
      ),
    )
