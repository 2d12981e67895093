use Rattle.std.proofs.Common.{rules, ◌≡◌, ◌≤◌, length}
use Rattle.std.specs.Prelude.{Err}
use Rattle.pw_text.proofs.Numbered.{further, front_further, at_last}
use Rattle.rescue_run.specs.Rescuing.{frame_line}
use Rattle.rescue_run.proofs.Lines.{text_err}
use Rattle.rescue_run.proofs.finish.put_frames.Goals as goal

pub returns-in_err-put_some-clause-bytes : goal.returns-in_err-put_some-clause-bytes
returns-in_err-put_some-clause-bytes g c =
    let next = c.loop-next.next in
    let end = c.min-end.result in
    let is : c.from_residual.result ≡ Err c.in_err-put_some.field-0.0 = search rules in
    let le : next ≤ end = search rules in
    text_err c.from_residual.result c.in_err-put_some.field-0.0 _ _ _ is (front_further frame_line c.args.extents.now next end le c.loop-next.invariant.order c.loop-next.invariant.text c.in_err-put_some.ensures.bytes)

pub loop-next-preserved : goal.loop-next-preserved
loop-next-preserved g c =
    let next = c.loop-next.next in
    let end = c.min-end.result in
    let le : next ≤ end = search rules in
    record {
      order = search rules;
      text = further frame_line c.args.extents.now next end le c.loop-next.invariant.order c.loop-next.invariant.text c.in_ok-put_some.ensures.bytes;
      cause = search rules;
    }

pub returns-clause-bytes : goal.returns-clause-bytes
returns-clause-bytes g c =
    let past : length c.args.extents.now ≤ c.loop-next.next = search rules in
    at_last frame_line c.args.extents.now c.loop-next.next past c.loop-next.invariant.text
