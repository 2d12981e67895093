use Rattle.std.proofs.Common.{◌≡◌, ◌-◌, ◌<◌, ◌≤◌, ◌++◌, length, take, drop}
use Rattle.qt_tables.specs.Samples.{samples}
use Rattle.run_look.specs.Listing.{sample_lines}
use Rattle.run_look.proofs.lines.put_samples.Given as goal

abbrev pub invariant-loop-number : goal.invariant-loop-number
invariant-loop-number l = record {
  order : l.from ≤ l.number;
  there : l.number ≤ l.end;
  within : l.from < l.number → l.number ≤ length (samples l.reader.tables);
  text : l.text.items ≡ l.initial.text.items ++ sample_lines l.from (take (l.number - l.from) (drop l.from (samples l.reader.tables)));
}
