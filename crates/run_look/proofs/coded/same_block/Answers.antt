use Rattle.std.proofs.lemmas.Bool.Decides.{Decides-int_eq}
use Rattle.std.proofs.lemmas.Slice.Eq.{slice_eq-Decides}
use Rattle.run_look.proofs.Alike.{decided}
use Rattle.run_look.proofs.coded.same_block.Goals as goal

pub returns : goal.returns
returns c = decided c.eq.result (slice_eq-Decides Decides-int_eq c.args.some.now c.args.other.now c.eq.result c.eq.ensures)
