use Rattle.std.proofs.Common.{sym, subst}
use Rattle.pw_outside.specs.Reading.{bytes_of}
use Rattle.pic_raw.specs.Any.{pictures_of}
use Rattle.workshop.specs.Encoding.{CompletesEncode}
use Rattle.workshop.proofs.Encoded.{complete, no-fault}
use Rattle.workshop.proofs.encode.encode.Goals as goal

pub returns-clause-complete : goal.returns-clause-complete
returns-clause-complete g c = λ told nr nw.
    let input = pictures_of c.args.words.now.raw (bytes_of (g.S.ByteSource.left c.args.pictures.now)) in
    subst (CompletesEncode c.args.words.now input) (sym c.status_of.ensures)
    (complete c.args.words.now input c.encode_run.result _ _ (c.encode_run.ensures.ran told) (no-fault _ _ c.encode_run.ensures.read.rose nr) (no-fault _ _ c.encode_run.ensures.write.rose nw))
