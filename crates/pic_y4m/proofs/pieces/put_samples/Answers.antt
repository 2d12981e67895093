use Rattle.std.proofs.Common.{arith, ◌∙◌}
use Rattle.pw_outside.proofs.Results.{any_err}
use Rattle.pic_y4m.proofs.Written.{piece-more, piece-part}
use Rattle.pic_y4m.proofs.pieces.put_samples.Goals as goal

pub returns-in_err-put_piece-clause-err : goal.returns-in_err-put_piece-clause-err
returns-in_err-put_piece-clause-err g c =
    any_err c.from_residual.result (piece-part c.args.size c.args.samples.now c.loop-at.at c.min-count.result c.loop-at.invariant.puts c.in_err-put_piece.ensures.err)

pub loop-at-preserved : goal.loop-at-preserved
loop-at-preserved g c =
    let i = c.loop-at.invariant in
    record {
      in_range = omega (arith, i.in_range, c.min-count.ensures);
      puts = piece-more c.args.size c.args.samples.now c.loop-at.at c.min-count.result i.puts c.in_ok-put_piece.ensures.ok;
      settled = omega (arith, i.settled, c.in_ok-put_piece.ensures.settled);
      cause = c.in_ok-put_piece.ensures.cause.kept ∙ i.cause;
    }
