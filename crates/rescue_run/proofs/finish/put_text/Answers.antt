use Rattle.std.proofs.Common.{rules, ◌≡◌, length}
use Rattle.std.specs.Prelude.{Err}
use Rattle.rescue_run.specs.Rescuing.{frame_lines, count_line}
use Rattle.rescue_run.proofs.Lines.{text_then, text_cut}
use Rattle.rescue_run.proofs.finish.put_text.Goals as goal

pub returns-in_err-put_frames-clause-bytes : goal.returns-in_err-put_frames-clause-bytes
returns-in_err-put_frames-clause-bytes g c =
    let is : c.from_residual.result ≡ Err c.in_err-put_frames.field-0.0 = search rules in
    text_cut c.from_residual.result c.in_err-put_frames.field-0.0 (frame_lines 0 c.args.extents.now) (count_line (length c.args.extents.now)) _ _ is c.in_err-put_frames.ensures.bytes

pub returns-clause-bytes : goal.returns-clause-bytes
returns-clause-bytes g c = text_then c.put_count.result (frame_lines 0 c.args.extents.now) (count_line (length c.args.extents.now)) _ _ _ c.in_ok-put_frames.ensures.bytes c.put_count.ensures.bytes
