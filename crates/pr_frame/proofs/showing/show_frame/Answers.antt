use Rattle.std.proofs.Common.{◌≡◌, Ok, ◌∙◌}
use Rattle.std.proofs.lemmas.Result.{err_from_is_err_and}
use Rattle.pw_outside.specs.Reading.{rest_of, bytes_of}
use Rattle.pr_head.specs.Header.{Opened, header_at}
use Rattle.pr_frame.proofs.FrameSteps.{frame-head-fails, frame-pictures-fails, frame-value, head-at, head-room}
use Rattle.pr_frame.proofs.ShowFrames.{frame_shown}
use Rattle.pr_frame.proofs.showing.show_frame.Goals as goal

pub returns-in_err-header-clause-found : goal.returns-in_err-header-clause-found
returns-in_err-header-clause-found g c =
    let p = err_from_is_err_and c.from_residual.result c.from_residual.ensures.1 in
    rw (p.1, p.2) (λ enough h. frame-head-fails c.args.size (rest_of c.args.place.now (g.S.ByteSource.left c.args.source.now)) c.in_err-header.field-0.0 ((c.in_err-header.ensures.bytes.answer h).1))

pub returns-in_err-output-clause-found : goal.returns-in_err-output-clause-found
returns-in_err-output-clause-found g c =
    let p = err_from_is_err_and c.from_residual-in_err-output.result c.from_residual-in_err-output.ensures.1 in
    let o : Opened = record { header = c.in_ok-header.header; taken = c.in_ok-header.taken; size = c.in_ok-header.frame } in
    let left = g.S.ByteSource.left c.args.source.now in
    let new = g.S.ByteSource.left c.read_frame_header.new.source in
    let s = rest_of c.args.place.now left in
    let t = rest_of c.from.result new in
    rw (p.1, p.2) (λ enough h.
    let a = c.in_ok-header.ensures.bytes.answer h in
    let head : header_at c.args.size (bytes_of left) ≡ Ok (o, t) = head-at c.args.size left new o a.0 c.from.result a.1 c.from.ensures in
    let room = head-room c.args.size left new o c.from.result head c.in_ok-header.ensures.size (enough h) in
    frame-pictures-fails c.args.size s o t head c.in_err-output.field-0.0 (c.in_err-output.ensures.found (λ k. room) (c.in_ok-header.ensures.bytes.told h)))

pub returns-clause-found : goal.returns-clause-found
returns-clause-found g c =
    let o : Opened = record { header = c.in_ok-header.header; taken = c.in_ok-header.taken; size = c.in_ok-header.frame } in
    let left = g.S.ByteSource.left c.args.source.now in
    let new = g.S.ByteSource.left c.read_frame_header.new.source in
    let s = rest_of c.args.place.now left in
    let t = rest_of c.from.result new in
    let u = rest_of c.show_pictures.new.place (g.S.ByteSource.left c.show_pictures.new.source) in
    let found = c.in_ok-output.ensures.found in
    let is = frame_shown o.header c.args.depth c.in_ok-output.output found.0 c.in_ok-header.ensures.header.layout found.1 in (
      record { header = o.header; pictures = found.0 },
      record { coded = is.coded; is = c.shown_with.ensures ∙ is.is },
      λ enough h.
          let a = c.in_ok-header.ensures.bytes.answer h in
          let head : header_at c.args.size (bytes_of left) ≡ Ok (o, t) = head-at c.args.size left new o a.0 c.from.result a.1 c.from.ensures in
          let room = head-room c.args.size left new o c.from.result head c.in_ok-header.ensures.size (enough h) in
          let read = found.2 (λ k. room) (c.in_ok-header.ensures.bytes.told h) in
          (read.0, frame-value c.args.size s o t head found.0 u read.1),
    )
