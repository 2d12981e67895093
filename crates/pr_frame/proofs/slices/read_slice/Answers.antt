use Rattle.std.proofs.Common.{refl, sym}
use Rattle.std.proofs.lemmas.Result.{err_from_is_err_and}
use Rattle.pw_outside.specs.Reading.{rest_of}
use Rattle.pr_head.specs.Faults.{told_fault}
use Rattle.pr_head.proofs.Chain.{agrees-same}
use Rattle.pr_frame.proofs.Rests.{coded-is, coded-head-fails}
use Rattle.pr_frame.proofs.slices.read_slice.Goals as goal

pub returns-in_err-head-clause-bytes : goal.returns-in_err-head-clause-bytes
returns-in_err-head-clause-bytes g c = λ enough.
    let p = err_from_is_err_and c.from_residual.result c.from_residual.ensures.1 in
    let s = rest_of c.args.place.now (g.S.ByteSource.left c.args.source.now) in
    rw (p.1, p.2) (record {
      told = λ h. tt;
      answer = λ h. coded-head-fails c.args.header.now c.args.slice.now c.args.size s c.in_err-head.field-0.0 ((c.in_err-head.ensures.bytes enough).answer h);
    })

pub returns-clause-bytes : goal.returns-clause-bytes
returns-clause-bytes g c = λ enough.
    let head = c.in_ok-head.ensures.bytes enough in
    let r = c.in_ok-head.head in
    let s = rest_of c.args.place.now (g.S.ByteSource.left c.args.source.now) in
    let t = rest_of c.slice_header.new.place (g.S.ByteSource.left c.slice_header.new.source) in
    let parts = c.read_components.ensures.bytes c.args.header.now (sym c.requires.layout.interlace) (sym c.requires.layout.chroma) refl in
    record {
      told = λ h. parts.told (head.told h);
      answer = λ h. agrees-same told_fault (λ x. x) c.read_components.result (rest_of c.read_components.new.place (g.S.ByteSource.left c.read_components.new.source))
          (sym (coded-is c.args.header.now c.args.slice.now c.args.size s r t (head.answer h))) (parts.answer (head.told h));
    }
