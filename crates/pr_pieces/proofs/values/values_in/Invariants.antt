use Rattle.std.proofs.Common.{◌≡◌, ℕ, ◌+◌, ◌-◌, ◌*◌, ◌<◌, ◌≤◌, ◌++◌, List, ℤ, pos, length, replicate}
use Rattle.pr_coeff.specs.Component.{places, listed, AreBlocks}
use Rattle.pr_coeff.specs.Reading.{values_at}
use Rattle.pw_bits.specs.Places.{ahead}
use Rattle.pr_coeff.specs.Lengths.{run_in, level_in}
use Rattle.pr_coeff.proofs.ValuesLemmas.{values_front}
use Rattle.pr_pieces.proofs.values.values_in.Given as goal

abbrev pub invariant-loop-at : goal.invariant-loop-at
invariant-loop-at l = record {
  front : List ℤ;
  turns : ℕ;
  enough : l.room < turns;
  count : length front + l.room ≡ 63 * length l.fn.blocks;
  blocks : AreBlocks l.blocks;
  listed : (ds : List ℤ) → length ds ≡ length l.fn.blocks → listed (places l.scan) l.fn.blocks ≡ ds ++ replicate (63 * length l.fn.blocks) (pos 0) →
      listed (places l.scan) l.blocks ≡ ds ++ (front ++ replicate l.room (pos 0));
  place : l.at ≤ l.stretch.end;
  classes : (l.run_class < 6) × (l.level_class < 6);
  reads : values_at (63 * length l.fn.blocks + 1) (63 * length l.fn.blocks) 4 2 (ahead l.padded l.stretch.end l.stretch.first)
      ≡ values_front front (values_at turns l.room (run_in l.run_class) (level_in l.level_class) (ahead l.padded l.stretch.end l.at));
}

abbrev pub decreases-loop-at : goal.decreases-loop-at
decreases-loop-at l = l.stretch.last - l.at
