use Rattle.std.proofs.Common.{◌≡◌, ◌+◌, ◌≤◌, Ok, subst, length}
use Rattle.std.proofs.lemmas.Result.{err_from_is_err_and}
use Rattle.std.specs.Prelude.{IsSome}
use Rattle.pw_outside.specs.Reading.{rest_of, bytes_of, Fails}
use Rattle.pr_head.specs.Faults.{told_fault}
use Rattle.pr_head.specs.Header.{Opened, header_at}
use Rattle.pr_frame.specs.Reading.{coded_pictures_at}
use Rattle.pr_frame.proofs.FrameSteps.{frame-head-fails, frame-pictures-fails, frame-value, head-at, head-room}
use Rattle.pr_frame.proofs.read.frame_from.Goals as goal

pub returns-in_err-header-clause-bytes : goal.returns-in_err-header-clause-bytes
returns-in_err-header-clause-bytes g c =
    let p = err_from_is_err_and c.from_residual.result c.from_residual.ensures.1 in
    rw (p.1, p.2) (record {
      told = λ h. tt;
      answer = λ h. frame-head-fails c.args.size (rest_of c.args.place.now (g.S.ByteSource.left c.args.source.now)) c.in_err-header.field-0.0 ((c.in_err-header.ensures.bytes.answer h).1);
    })

pub returns-in_err-pictures-clause-bytes : goal.returns-in_err-pictures-clause-bytes
returns-in_err-pictures-clause-bytes g c =
    let p = err_from_is_err_and c.from_residual-in_err-pictures.result c.from_residual-in_err-pictures.ensures.1 in
    let o : Opened = record { header = c.in_ok-header.header; taken = c.in_ok-header.taken; size = c.in_ok-header.frame } in
    let left = g.S.ByteSource.left c.args.source.now in
    let new = g.S.ByteSource.left c.read_frame_header.new.source in
    let s = rest_of c.args.place.now left in
    let t = rest_of c.from.result new in
    let fault = c.in_err-pictures.field-0.0 in
    rw (p.1, p.2) (record {
      told = λ h. tt;
      answer = λ h.
          let a = c.in_ok-header.ensures.bytes.answer h in
          let head = head-at c.args.size left new o a.0 c.from.result a.1 c.from.ensures in
          let room = head-room c.args.size left new o c.from.result head c.in_ok-header.ensures.size (c.requires.bytes h) in
          frame-pictures-fails c.args.size s o t head fault
          (subst (λ n. Fails told_fault fault (coded_pictures_at n o.size o.header t)) c.pictures_of-count.ensures ((c.in_err-pictures.ensures.bytes (λ k. room)).answer (c.in_ok-header.ensures.bytes.told h)));
    })

pub returns-clause-bytes : goal.returns-clause-bytes
returns-clause-bytes g c =
    let o : Opened = record { header = c.in_ok-header.header; taken = c.in_ok-header.taken; size = c.in_ok-header.frame } in
    let left = g.S.ByteSource.left c.args.source.now in
    let new = g.S.ByteSource.left c.read_frame_header.new.source in
    let s = rest_of c.args.place.now left in
    let t = rest_of c.from.result new in
    let u = rest_of c.read_pictures.new.place (g.S.ByteSource.left c.read_pictures.new.source) in
    let xs = c.in_ok-pictures.pictures in
    let head : (h : IsSome left) → header_at c.args.size (bytes_of left) ≡ Ok (o, t) = λ h. let a = c.in_ok-header.ensures.bytes.answer h in head-at c.args.size left new o a.0 c.from.result a.1 c.from.ensures in
    let room : (h : IsSome left) → o.size ≤ c.from.result + length (bytes_of new) = λ h. head-room c.args.size left new o c.from.result (head h) c.in_ok-header.ensures.size (c.requires.bytes h) in
    record {
      told = λ h. (c.in_ok-pictures.ensures.bytes (λ k. room h)).told (c.in_ok-header.ensures.bytes.told h);
      answer = λ h. frame-value c.args.size s o t (head h) xs u
          (subst (λ n. coded_pictures_at n o.size o.header t ≡ Ok (xs, u)) c.pictures_of-count.ensures ((c.in_ok-pictures.ensures.bytes (λ k. room h)).answer (c.in_ok-header.ensures.bytes.told h)));
    }
