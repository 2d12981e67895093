use Rattle.std.proofs.Common.{◌≡◌, ◌*◌, drop}
use Rattle.run_encode.proofs.Lining.{AreFirstLines}
use Rattle.run_encode.proofs.lines.lines_for.Given as goal

abbrev pub invariant-frames : goal.invariant-frames
invariant-frames l = record {
  slices : l.slices ≡ drop (l.count * l.k) l.table.slices;
  choice : l.choice ≡ drop (l.count * l.k) l.initial.choice;
  lines : AreFirstLines l.job l.number l.count l.k l.frames l.table.slices l.initial.choice l.lines.items;
}
