use Rattle.std.proofs.Common.{rules, ◌≡◌, ◌+◌, ◌<◌, get_or, arith, subst}
use Rattle.std.proofs.lemmas.Result.{err_from_is_err_and}
use Rattle.run_look.specs.Checking.{frames_in}
use Rattle.run_look.specs.Agreeing.{left_by, HasFrame}
use Rattle.run_look.proofs.Agreed.{pictures_stop, pictures_further}
use Rattle.run_look.proofs.agreeing.take_pictures.Goals as goal

pub returns-in_err-take_picture-clause-takes : goal.returns-in_err-take_picture-clause-takes
returns-in_err-take_picture-clause-takes g c =
    let p = err_from_is_err_and c.from_residual.result c.from_residual.ensures.1 in
    let k = c.loop-k.k in
    let here = c.index-frames-k.result in
    let lt : k < frames_in c.args.settings.now c.args.group.now = search rules in
    let is : get_or c.args.frames.now k here ≡ here = search rules in
    rw (p.1, p.2) (λ told given left frames.
    let before = c.loop-k.invariant.takes told given left frames in
    let frame = subst (λ f. HasFrame given (c.args.first + k) f) is (frames k here (omega (arith, lt, c.requires.number))) in
    pictures_stop given c.args.layout.now c.args.settings.now c.args.group.now c.args.first k c.in_err-take_picture.field-0.0 before.0 lt
    (c.in_err-take_picture.ensures.takes (c.loop-k.invariant.told told) given before.1 frame))

pub loop-k-preserved : goal.loop-k-preserved
loop-k-preserved g c =
    let k = c.loop-k.k in
    let here = c.index-frames-k.result in
    let lt : k < frames_in c.args.settings.now c.args.group.now = search rules in
    let is : get_or c.args.frames.now k here ≡ here = search rules in
    record {
      end = search rules;
      few = search rules;
      told = λ told. c.in_ok-take_picture.ensures.told (c.loop-k.invariant.told told);
      takes = λ told given left frames.
          let before = c.loop-k.invariant.takes told given left frames in
          let frame = subst (λ f. HasFrame given (c.args.first + k) f) is (frames k here (omega (arith, lt, c.requires.number))) in
          pictures_further given c.args.layout.now c.args.settings.now c.args.group.now c.args.first k (left_by c.take_picture.new.reader (g.S.ByteSource.left c.take_picture.new.pictures)) before.0
          (c.in_ok-take_picture.ensures.takes (c.loop-k.invariant.told told) given before.1 frame);
      head = search rules;
      reader = search rules;
      cause = search rules;
    }
