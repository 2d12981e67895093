use Rattle.std.proofs.Common.{◌≡◌, ◌-◌, ◌*◌, ◌≤◌, ◌++◌, List, ℤ, pos, nat_abs, length, replicate, IsSome}
use Rattle.pw_outside.specs.Ports.{Lowers, GoesOn}
use Rattle.pw_bits.specs.Reading.{unread}
use Rattle.pr_coeff.specs.Component.{places, listed, AreBlocks}
use Rattle.pr_coeff.specs.Reading.{firsts_at, all_firsts_at}
use Rattle.pr_coeff.proofs.FirstLemmas.{with_front}
use Rattle.pr_coeff.proofs.component.get_firsts.Given as goal

abbrev pub invariant-loop-index : goal.invariant-loop-index
invariant-loop-index g l = record {
  ds : List ℤ;
  count : length ds ≡ l.index;
  blocks : AreBlocks l.blocks;
  listed : listed (places l.scan) l.blocks ≡ ds ++ replicate (64 * length l.fn.blocks - l.index) (pos 0);
  small : nat_abs l.differences.last ≤ 32767;
  told : IsSome (g.S.ByteSource.left l.fn.source) → IsSome (g.S.ByteSource.left l.source);
  reads : IsSome (g.S.ByteSource.left l.fn.source) → all_firsts_at (length l.fn.blocks) (unread l.fn.reader (g.S.ByteSource.left l.fn.source))
      ≡ with_front ds (firsts_at (length l.fn.blocks - l.index) l.differences.last l.differences.negative l.differences.code (unread l.reader (g.S.ByteSource.left l.source)));
  becomes : GoesOn g.S.ByteSource.becomes l.fn.source l.source;
  most : Lowers (g.S.ByteSource.most l.fn.source) (g.S.ByteSource.most l.source) 0;
  kept : g.S.ByteSource.faults l.source ≡ g.S.ByteSource.faults l.fn.source;
}
