use Rattle.run_look.proofs.Parts.{budget_small}
use Rattle.run_look.proofs.comparing.has_table.Goals as goal

pub build_table-requires-clause-budget : goal.build_table-requires-clause-budget
build_table-requires-clause-budget c = budget_small c.args.settings.now c.requires.settings
