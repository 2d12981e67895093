use Rattle.pr_frame.proofs.Short.{writable-blocks}
use Rattle.pr_frame.proofs.write.write_part.Goals as goal

pub write_component-requires-clause-small : goal.write_component-requires-clause-small
write_component-requires-clause-small g c = writable-blocks c.args.blocks.now c.told-blocks c.requires.values
