use Rattle.std.proofs.Common.{arith}
use Rattle.run_encode.proofs.Sums.{sized}
use Rattle.run_encode.proofs.parts.frame_size.Goals as goal

pub returns-clause-size : goal.returns-clause-size
returns-clause-size c =
    let h = c.requires.choice in
    omega (
      arith,
      c.fixed_size.ensures.value,
      c.part_sums-sums.ensures.size h.entries h.is_choice h.has_indices,
      sized c.written_has_length.ensures c.frame_has_table_size.ensures _ _ _ _ c.requires.job c.requires.frame c.requires.slices h,
    )
