use Rattle.std.proofs.Common.{subst}
use Rattle.std.specs.Prelude.{codes}
use Rattle.std.proofs.lemmas.List.{take_rest}
use Rattle.memchr.specs.Find.{FindsNeedle}
use Rattle.rescue_run.proofs.Marks.{first_found, none_short, found_in}
use Rattle.rescue_run.proofs.search.first_mark.Goals as goal

pub returns-then-piece-lt8-clause-mark : goal.returns-then-piece-lt8-clause-mark
returns-then-piece-lt8-clause-mark c = none_short c.args.piece.now c.if-piece-lt8.true

pub returns-clause-mark : goal.returns-clause-mark
returns-clause-mark c = first_found c.args.piece.now c.find.result (subst (λ l. FindsNeedle l (codes "icpf") 0 c.find.result) (take_rest c.args.piece.now 4) c.find.ensures)

pub returns-clause-room : goal.returns-clause-room
returns-clause-room c = found_in c.args.piece.now c.find.result (subst (λ l. FindsNeedle l (codes "icpf") 0 c.find.result) (take_rest c.args.piece.now 4) c.find.ensures)
