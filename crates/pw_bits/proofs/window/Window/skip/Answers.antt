use Rattle.std.proofs.Common.{take, arith, ◌∙◌}
use Rattle.std.proofs.lemmas.List.{length-take}
use Rattle.pw_outside.proofs.Loops.{Lowers-then}
use Rattle.pw_bits.proofs.ReadingLemmas.{told-read}
use Rattle.pw_bits.proofs.WindowLemmas.{window-behind}
use Rattle.pw_bits.proofs.window.Window.skip.Goals as goal

pub loop-self-preserved : goal.loop-self-preserved
loop-self-preserved g c =
    let i = c.loop-self.invariant in
    let r = c.in_ok-read.ensures in
    let k = c.in_ok-read.field-0 in
    let w = c.loop-self.self.left in
    let old = g.S.ByteSource.left c.loop-self.self.source.now in
    let new = g.S.ByteSource.left c.read.new.self.source.now in
    let piece = c.read.new.piece in
    record {
      same = r.same_source ∙ i.same;
      within = omega (arith, r.length, i.within);
      behind = λ t. window-behind w c.read.new.self.left k old new piece (omega (arith, length-take k (take w piece), length-take w piece, r.count.0, r.length)) r.length r.source.0 (i.told t) ∙ i.behind t;
      told = λ t. told-read old new (take k (take w piece)) r.source.0 (i.told t);
      lowers = Lowers-then (g.S.ByteSource.most c.args.self.now.source.now) (g.S.ByteSource.most c.loop-self.self.source.now) (g.S.ByteSource.most c.read.new.self.source.now) 0 k i.lowers r.source_most;
      becomes = λ first h. r.source_becomes first (i.becomes first h);
      cause = r.cause.kept ∙ i.cause;
    }
