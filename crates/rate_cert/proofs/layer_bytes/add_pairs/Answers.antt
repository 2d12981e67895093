use Rattle.std.proofs.Common.{◌+◌, drop, ◌∙◌, arith}
use Rattle.std.specs.List.{flat_map}
use Rattle.pw_outside.proofs.Results.{any_err}
use Rattle.rate_cert.specs.Layers.{pair_bytes}
use Rattle.rate_cert.proofs.Gathering.{nothing, partly_more, partly_end, flat_left}
use Rattle.rate_cert.proofs.layer_bytes.add_pairs.Goals as goal

pub returns-in_err-add-clause-err : goal.returns-in_err-add-clause-err
returns-in_err-add-clause-err g c =
    let n = c.loop-pair.pair-index in
    let xs = c.args.pairs.now in
    let text = c.bytes_of_pair.result in
    any_err c.from_residual.result (partly_end text (flat_map pair_bytes (drop (n + 1) xs)) (flat_left pair_bytes xs n nothing text c.loop-pair-test.true c.bytes_of_pair.ensures) c.loop-pair.invariant.partly c.in_err-add.ensures.err)

pub loop-pair-preserved : goal.loop-pair-preserved
loop-pair-preserved g c =
    let n = c.loop-pair.pair-index in
    let xs = c.args.pairs.now in
    let text = c.bytes_of_pair.result in
    record {
      partly = partly_more text (flat_map pair_bytes (drop (n + 1) xs)) (flat_left pair_bytes xs n nothing text c.loop-pair-test.true c.bytes_of_pair.ensures) c.loop-pair.invariant.partly c.in_ok-add.ensures.ok;
      settled = omega (arith, c.loop-pair.invariant.settled, c.in_ok-add.ensures.settled);
      cause = c.in_ok-add.ensures.cause.kept ∙ c.loop-pair.invariant.cause;
    }
