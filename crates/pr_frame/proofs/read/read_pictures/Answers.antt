use Rattle.std.proofs.Common.{◌∷◌, [], arith, refl, ◌∙◌, length-append}
use Rattle.std.proofs.lemmas.Result.{err_from_is_err_and}
use Rattle.std.proofs.lemmas.List.Elements.{All-append, All-nil, All-cons}
use Rattle.pw_outside.specs.Reading.{rest_of}
use Rattle.pr_head.proofs.Bounds.{lowers_same, lowers_then}
use Rattle.pr_frame.specs.Coded.{IsCodedPicture}
use Rattle.pr_frame.proofs.FrameSteps.{pictures-first, picture-ahead, end-kept, pictures-more, pictures-end, pictures-all}
use Rattle.pr_frame.proofs.read.read_pictures.Goals as goal

pub loop-init : goal.loop-init
loop-init g c = rw c.new-pictures.ensures.items (record {
  count = refl;
  place = c.requires.room;
  told = λ e h. h;
  more = λ e h. e h;
  bytes = λ e h. pictures-first c.args.frame c.args.header.now c.args.count (rest_of c.args.place.now (g.S.ByteSource.left c.args.source.now));
  pictures = All-nil (IsCodedPicture c.args.header.now);
  most = lowers_same _;
  becomes = λ first h. h;
  cause = refl;
})

pub returns-in_err-picture-clause-bytes : goal.returns-in_err-picture-clause-bytes
returns-in_err-picture-clause-bytes g c = λ e.
    let p = err_from_is_err_and c.from_residual.result c.from_residual.ensures.1 in
    let i = c.loop.invariant in
    rw (p.1, p.2) (record {
      told = λ h. tt;
      answer = λ h. pictures-end c.args.frame c.args.header.now c.args.count c.loop.counter (rest_of c.loop.place (g.S.ByteSource.left c.loop.source)) _ c.in_err-picture.field-0.0 c.loop.pictures.items c.loop-test.true
          ((c.in_err-picture.ensures.bytes (λ k. i.more e h)).answer (i.told e h)) (i.bytes e h);
    })

pub loop-preserved : goal.loop-preserved
loop-preserved g c =
    let i = c.loop.invariant in
    let x = c.in_ok-picture.picture in
    let F = c.args.frame in
    let hd = c.args.header.now in
    let s = rest_of c.loop.place (g.S.ByteSource.left c.loop.source) in
    let t = rest_of c.read_picture.new.place (g.S.ByteSource.left c.read_picture.new.source) in
    rw c.in_ok-push.ensures.items (record {
      count = omega (arith, i.count, length-append c.loop.pictures.items (x ∷ []));
      place = c.in_ok-picture.ensures.place;
      told = λ e h. (c.in_ok-picture.ensures.bytes (λ k. i.more e h)).told (i.told e h);
      more = λ e h.
          let a = picture-ahead F hd s x t ((c.in_ok-picture.ensures.bytes (λ k. i.more e h)).answer (i.told e h)) in
          end-kept F a.0 s t a.1 (i.more e h);
      bytes = λ e h. pictures-more F hd c.args.count c.loop.counter s _ c.loop.pictures.items x t c.loop-test.true ((c.in_ok-picture.ensures.bytes (λ k. i.more e h)).answer (i.told e h)) (i.bytes e h);
      pictures = All-append (IsCodedPicture hd) c.loop.pictures.items (x ∷ []) i.pictures (All-cons (IsCodedPicture hd) x [] c.in_ok-picture.ensures.picture (All-nil (IsCodedPicture hd)));
      most = lowers_then _ _ _ _ _ i.most c.in_ok-picture.ensures.most;
      becomes = λ first h. c.in_ok-picture.ensures.becomes first (i.becomes first h);
      cause = c.in_ok-picture.ensures.cause.kept ∙ i.cause;
    })

pub returns-clause-bytes : goal.returns-clause-bytes
returns-clause-bytes g c = λ e.
    let i = c.loop.invariant in
    rw c.from_vec.ensures (record {
      told = i.told e;
      answer = λ h. pictures-all c.args.frame c.args.header.now c.args.count c.loop.counter (rest_of c.loop.place (g.S.ByteSource.left c.loop.source)) _ c.loop.pictures.items c.loop-test.false (i.bytes e h);
    })
