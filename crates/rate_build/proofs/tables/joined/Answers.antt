use Rattle.std.proofs.Common.{arith}
use Rattle.std.proofs.lemmas.List.Elements.{All-push}
use Rattle.rate_table.proofs.Behind.{slice-behind, last_index-behind}
use Rattle.rate_build.specs.Tables.{IsShort}
use Rattle.rate_build.proofs.Joined.{joined_more}
use Rattle.rate_build.proofs.tables.joined.Goals as goal

pub loop-i-preserved : goal.loop-i-preserved
loop-i-preserved c =
    let e = c.entry-in-loop-i.ensures in
    let inv = c.loop-i.invariant in
    rw c.add.ensures (record {
      entries = joined_more c.args.beside c.args.y.now c.args.cb.now c.args.cr.now c.args.lo c.loop-i.i c.from-k.result c.loop-i.table c.entry-in-loop-i.result c.from-k.ensures e.index e.size e.error c.loop-i.invariant.entries;
      slice = slice-behind c.loop-i.table c.entry-in-loop-i.result inv.slice e.limits (omega (arith, inv.last, e.index));
      short = All-push IsShort c.loop-i.table c.entry-in-loop-i.result inv.short e.short;
      last = omega (arith, last_index-behind c.loop-i.table c.entry-in-loop-i.result, e.index);
    })
