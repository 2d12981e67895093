use Rattle.std.proofs.Common.{◌≡◌, ℕ, ◌+◌, ◌*◌, ◌<◌, ◌++◌, List, ℤ, pos, length, replicate, IsSome}
use Rattle.pw_outside.specs.Ports.{Lowers, GoesOn}
use Rattle.pw_bits.specs.Reading.{unread}
use Rattle.pr_coeff.specs.Component.{places, listed, AreBlocks}
use Rattle.pr_coeff.specs.Reading.{values_at}
use Rattle.pr_coeff.proofs.ValuesLemmas.{values_front}
use Rattle.pr_coeff.proofs.component.get_values.Given as goal

abbrev pub invariant-triples : goal.invariant-triples
invariant-triples g l = record {
  front : List ℤ;
  turns : ℕ;
  enough : l.room < turns;
  count : length front + l.room ≡ 63 * length l.fn.blocks;
  blocks : AreBlocks l.blocks;
  listed : (ds : List ℤ) → length ds ≡ length l.fn.blocks → listed (places l.scan) l.fn.blocks ≡ ds ++ replicate (63 * length l.fn.blocks) (pos 0) →
      listed (places l.scan) l.blocks ≡ ds ++ (front ++ replicate l.room (pos 0));
  bound : IsSome (g.S.ByteSource.most l.source);
  told : IsSome (g.S.ByteSource.left l.fn.source) → IsSome (g.S.ByteSource.left l.source);
  reads : IsSome (g.S.ByteSource.left l.fn.source) → values_at (63 * length l.fn.blocks + 1) (63 * length l.fn.blocks) 4 2 (unread l.fn.reader (g.S.ByteSource.left l.fn.source))
      ≡ values_front front (values_at turns l.room l.run l.magnitude (unread l.reader (g.S.ByteSource.left l.source)));
  becomes : GoesOn g.S.ByteSource.becomes l.fn.source l.source;
  most : Lowers (g.S.ByteSource.most l.fn.source) (g.S.ByteSource.most l.source) 0;
  kept : g.S.ByteSource.faults l.source ≡ g.S.ByteSource.faults l.fn.source;
}

abbrev pub decreases-triples : goal.decreases-triples
decreases-triples g l = l.room
