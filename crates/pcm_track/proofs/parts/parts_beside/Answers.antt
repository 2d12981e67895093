use Rattle.std.proofs.Common.{rules, arith, ◌<◌, ◌+◌, length, drop, get_or, ap, ◌∙◌}
use Rattle.qt_tables.specs.declared.runs.Sample.{Sample}
use Rattle.pcm_track.specs.Adding.{parts_from, sound_end}
use Rattle.pcm_track.proofs.Shares.{beside-step, drop-at, rest-all}
use Rattle.pcm_track.proofs.parts.parts_beside.Goals as goal

pub overflow_add-time : goal.overflow_add-time
overflow_add-time c = omega (arith, c.loop-i.invariant.small, c.duration_of-time.ensures.small, c.requires.few)

pub loop-i-preserved : goal.loop-i-preserved
loop-i-preserved c =
    let d : Sample = record { at = 0; size = 0; duration = 0; description = 0 } in
    let s = get_or c.args.samples.now c.loop-i.i d in
    let lt : c.loop-i.i < length c.args.samples.now = search rules in
    let rest = drop (c.loop-i.i + 1) c.args.samples.now in
    let end = c.sound_end-end.ensures ∙ ap (λ l. sound_end c.args.timescale c.args.pcm (c.loop-i.time + c.duration_of-time.result) l) (rest-all c.args.samples.now (c.loop-i.i + 1)) in
    record {
      beside = beside-step c.args.timescale c.args.pcm (drop c.loop-i.i c.args.samples.now) rest s c.loop-i.time (c.loop-i.time + c.duration_of-time.result) c.saturating_sub.result c.border-start.result c.sound_end-end.result
          c.loop-i.parts.items c.push.new.self.items c.push_sound.new.parts.items (parts_from c.args.timescale c.args.pcm 0 c.args.samples.now)
          (drop-at c.args.samples.now c.loop-i.i d lt) (ap (λ k. c.loop-i.time + k) c.duration_of-time.ensures.value) c.border-start.ensures end (search rules) (search rules) (search rules) c.loop-i.invariant.beside;
      small = omega (arith, c.loop-i.invariant.small, c.duration_of-time.ensures.small);
    }
