use Rattle.std.proofs.Common.{rules, ◌++◌, ap, sym, ◌∙◌}
use Rattle.pw_text.proofs.Numbered.{one_more, none_yet}
use Rattle.rescue_run.specs.Rescuing.{frame_line}
use Rattle.rescue_run.proofs.finish.lines_of.Goals as goal

pub loop-number-init : goal.loop-number-init
loop-number-init c = record { order = search rules; there = search rules; text = c.new-text.ensures.items ∙ sym (none_yet frame_line c.args.extents.now c.args.from) }

pub loop-number-preserved : goal.loop-number-preserved
loop-number-preserved c =
    let ss = c.args.extents.now in
    let number = c.loop-number.number in
    record {
      order = search rules;
      there = search rules;
      text = c.in_ok-put_frame.ensures ∙ ap (λ l. l ++ frame_line number c.extent_at.result) c.loop-number.invariant.text
          ∙ sym (one_more frame_line ss c.args.from number c.extent_at.result c.loop-number.invariant.order c.extent_at.ensures);
    }
