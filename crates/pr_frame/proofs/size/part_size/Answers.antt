use Rattle.std.proofs.Common.{arith}
use Rattle.pr_frame.proofs.Short.{writable-blocks, part-short, scan-same}
use Rattle.pr_frame.proofs.size.part_size.Goals as goal

pub component_length-requires-clause-small : goal.component_length-requires-clause-small
component_length-requires-clause-small c = writable-blocks c.args.blocks.now c.told-blocks c.requires.values

pub overflow_cast-result : goal.overflow_cast-result
overflow_cast-result c = omega (arith, c.component_length.ensures, scan-same c.args.mode c.args.blocks.now _ c.scan_of.ensures, part-short c.args.mode c.args.blocks.now c.requires)

pub returns-clause-value : goal.returns-clause-value
returns-clause-value c = omega (arith, c.component_length.ensures, scan-same c.args.mode c.args.blocks.now _ c.scan_of.ensures)

pub returns-clause-short : goal.returns-clause-short
returns-clause-short c = omega (arith, c.component_length.ensures, scan-same c.args.mode c.args.blocks.now _ c.scan_of.ensures, part-short c.args.mode c.args.blocks.now c.requires)
