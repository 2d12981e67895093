use Rattle.std.proofs.Common.{sym, arith}
use Rattle.pr_head.specs.Header.{start_of}
use Rattle.pr_head.proofs.Places.{four_at}
use Rattle.pr_head.proofs.start.Start.of.Goals as goal

pub returns : goal.returns
unfolding start_of
returns c =
    let encoder = sym (four_at c.args.bytes.now 12 (omega arith)) in
    cc
