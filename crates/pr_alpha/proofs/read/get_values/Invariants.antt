use Rattle.std.proofs.Common.{◌≡◌, ℕ, ◌-◌, ◌^◌, ◌<◌, ◌≤◌, ◌∷◌, List, length, take, IsSome}
use Rattle.pw_outside.specs.Ports.{Lowers, GoesOn}
use Rattle.pw_bits.specs.Reading.{unread}
use Rattle.pr_alpha.specs.Alpha.{greatest, AreBelow}
use Rattle.pr_alpha.specs.Reading.{values_at}
use Rattle.pr_alpha.proofs.ReadLemmas.{with_front}
use Rattle.pr_alpha.proofs.read.get_values.Given as goal

abbrev pub invariant-rows : goal.invariant-rows
invariant-rows g l = record {
  front : List ℕ;
  turns : ℕ;
  enough : length l.fn.values - l.done ≤ turns;
  inside : l.done < length l.fn.values;
  same : length l.values ≡ length l.fn.values;
  size : length front ≡ l.done;
  values : take l.done l.values ≡ front;
  below : AreBelow l.bits front;
  last : l.last < 2 ^ l.bits;
  told : IsSome (g.S.ByteSource.left l.fn.source) → IsSome (g.S.ByteSource.left l.source);
  reads : IsSome (g.S.ByteSource.left l.fn.source) → values_at (length l.fn.values) l.bits (greatest l.bits) (length l.fn.values) (l.first ∷ unread l.fn.reader (g.S.ByteSource.left l.fn.source))
      ≡ with_front front (values_at turns l.bits l.last (length l.fn.values - l.done) (l.long ∷ unread l.reader (g.S.ByteSource.left l.source)));
  becomes : GoesOn g.S.ByteSource.becomes l.fn.source l.source;
  most : Lowers (g.S.ByteSource.most l.fn.source) (g.S.ByteSource.most l.source) 0;
  kept : g.S.ByteSource.faults l.source ≡ g.S.ByteSource.faults l.fn.source;
}

abbrev pub decreases-rows : goal.decreases-rows
decreases-rows g l = length l.values - l.done
