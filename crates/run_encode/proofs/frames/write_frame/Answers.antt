use Rattle.std.proofs.Common.{sym, subst}
use Rattle.std.proofs.lemmas.Result.{on_ok_weaker, on_err_weaker}
use Rattle.pw_outside.specs.Writing.{Puts, PutsFront}
use Rattle.pw_outside.proofs.Puts.{part_front}
use Rattle.pr_frame.specs.Written.{coded_bytes}
use Rattle.rate_build.specs.Chosen.{AreTablesOf}
use Rattle.rate_build.specs.Coding.{weights_in, coded_frame}
use Rattle.run_encode.specs.Outputs.{state_of}
use Rattle.pw_outside.proofs.Results.{any_err}
use Rattle.run_encode.proofs.FramesLeft.{head-front, then-frame, then-whole}
use Rattle.run_encode.proofs.frames.write_frame.Goals as goal

pub write_part-requires-clause-tables : goal.write_part-requires-clause-tables
write_part-requires-clause-tables g c =
    subst (λ h. AreTablesOf c.args.frame.now (weights_in h) c.args.slices.now) (sym c.requires.header) (record {
      lo = c.args.job.now.lo;
      hi = c.args.job.now.hi;
      least = c.requires.job.least;
      most = c.requires.job.most;
      tables = c.requires.slices;
    })

pub returns-in_err-frame_head-clause-err : goal.returns-in_err-frame_head-clause-err
returns-in_err-frame_head-clause-err g c = any_err c.from_residual.result (head-front _ _ _ _ c.frame_size-size.ensures.size (part_front c.in_err-frame_head.ensures.part))

pub returns-clause-ok : goal.returns-clause-ok
returns-clause-ok g c = on_ok_weaker c.write_part.result (λ p. then-whole _ _ _ _ _ c.frame_size-size.ensures.size c.in_ok-frame_head.ensures.all
    (subst (λ h. Puts (state_of g.K.ByteSink.held g.K.ByteSink.taken c.frame_head.new.sink) (state_of g.K.ByteSink.held g.K.ByteSink.taken c.write_part.new.sink) (coded_bytes (coded_frame c.args.frame.now h c.args.choice.now)))
    c.requires.header p)) c.write_part.ensures.ok

pub returns-clause-err : goal.returns-clause-err
returns-clause-err g c = on_err_weaker c.write_part.result (λ p. then-frame _ _ _ _ _ c.frame_size-size.ensures.size c.in_ok-frame_head.ensures.all
    (subst (λ h. PutsFront (state_of g.K.ByteSink.held g.K.ByteSink.taken c.frame_head.new.sink) (state_of g.K.ByteSink.held g.K.ByteSink.taken c.write_part.new.sink) (coded_bytes (coded_frame c.args.frame.now h c.args.choice.now)))
    c.requires.header p)) c.write_part.ensures.err
