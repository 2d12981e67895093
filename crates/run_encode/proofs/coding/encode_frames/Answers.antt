use Rattle.std.proofs.Common.{inr, subst}
use Rattle.rate_table.specs.Table.{HasNoFit}
use Rattle.pw_outside.proofs.Puts.{front_none}
use Rattle.run_encode.proofs.Printing.{none-front}
use Rattle.run_encode.proofs.coding.encode_frames.Goals as goal

pub returns-in-Ok-None-clause-ends : goal.returns-in-Ok-None-clause-ends
returns-in-Ok-None-clause-ends g c =
    let says = rw c.in-Ok-None.field-0-is at c.in-Ok-None.ensures.none in
    inr (
      subst HasNoFit c.in-Ok.ensures.table says.0,
      record {
        movie = front_none _ _ (g.met.K.ByteSink.counts c.args.out.now).1;
        proof = none-front _ _ c.args.job.now c.args.frames.now _ _ _ c.in-Ok.ensures.table c.requires.open.format says.1.1 c.in-Err-write_none.ensures.err;
        text = front_none _ _ (g.met.K.ByteSink.counts c.args.text.now).1;
      },
    )
