use Rattle.std.proofs.Common.{◌≡◌, ◌-◌, ◌≤◌, take, drop}
use Rattle.rescue_run.specs.Rescuing.{frame_lines}
use Rattle.rescue_run.proofs.finish.lines_of.Given as goal

abbrev pub invariant-loop-number : goal.invariant-loop-number
invariant-loop-number l = record {
  order : l.from ≤ l.number;
  there : l.number ≤ l.end;
  text : l.text.items ≡ frame_lines l.from (take (l.number - l.from) (drop l.from l.extents));
}
