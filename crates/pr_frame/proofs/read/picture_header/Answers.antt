use Rattle.std.proofs.Common.{◌+◌, sym, ap}
use Rattle.pw_outside.specs.Reading.{rest_of}
use Rattle.pr_head.specs.Picture.{picture_at}
use Rattle.pr_frame.proofs.Steps.{value-at}
use Rattle.pr_frame.proofs.Rests.{picture-rest}
use Rattle.pr_frame.proofs.read.picture_header.Goals as goal

pub returns-clause-bytes : goal.returns-clause-bytes
returns-clause-bytes g c = λ enough.
    let r = c.in_ok-picture.picture in
    let s = rest_of c.args.place.now (g.S.ByteSource.left c.args.source.now) in
    let new = g.S.ByteSource.left c.read_picture_header.new.source in
    record {
      told = (c.in_ok-picture.ensures.bytes enough).told;
      answer = λ h.
          let a = (c.in_ok-picture.ensures.bytes enough).answer h in
          value-at (picture_at c.args.frame c.args.header.now s) r a.0 r.header _ new s a.1 (picture-rest c.args.frame c.args.header.now s r (rest_of a.0 new) a.1).1 (ap (λ n. c.args.place.now + n) (sym c.from.ensures));
    }
