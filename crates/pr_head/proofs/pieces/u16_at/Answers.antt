use Rattle.std.proofs.Common.{ap, sym, ◌∙◌}
use Rattle.std.specs.Int.{from_be_bytes, w16}
use Rattle.pr_head.specs.Bytes.{number16}
use Rattle.pr_head.proofs.Places.{two_at}
use Rattle.pr_head.proofs.pieces.u16_at.Goals as goal

pub returns : goal.returns
unfolding number16
returns c = c.from_be_bytes.ensures ∙ ap (from_be_bytes w16) (sym (two_at c.args.bytes.now c.args.at c.requires))
