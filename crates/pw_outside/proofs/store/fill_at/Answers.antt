use Rattle.std.proofs.Common.{rules}
use Rattle.pw_outside.proofs.Loops.{GivenAt-piece}
use Rattle.pw_outside.proofs.store.fill_at.Goals as goal

pub loop-done-preserved : goal.loop-done-preserved
loop-done-preserved g c = record {
  in_range = search rules;
  same = search rules;
  given = GivenAt-piece _ _ _ _ _ _ _ c.loop-done.invariant.in_range c.in_ok-count.ensures.count.0 c.loop-done.invariant.given (rw c.loop-done.invariant.bytes at c.in_ok-count.ensures.value);
  bytes = search rules;
  cause = search rules;
}
