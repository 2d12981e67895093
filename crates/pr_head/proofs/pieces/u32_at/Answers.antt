use Rattle.std.proofs.Common.{ap, sym, ◌∙◌}
use Rattle.std.specs.Int.{from_be_bytes, w32}
use Rattle.pr_head.specs.Bytes.{number32}
use Rattle.pr_head.proofs.Places.{four_at}
use Rattle.pr_head.proofs.pieces.u32_at.Goals as goal

pub returns : goal.returns
unfolding number32
returns c = c.from_be_bytes.ensures ∙ ap (from_be_bytes w32) (sym (four_at c.args.bytes.now c.args.at c.requires))
