use Rattle.std.proofs.Common.{rules}
use Rattle.qt_tables.proofs.Near.{near-of}
use Rattle.qt_tables.proofs.judging.offsets_of.Goals as goal

pub returns-clause-near : goal.returns-clause-near
returns-clause-near g c = near-of c.in_ok-offsets.offsets.items (search (rules, c.has_far.ensures, c.if-has_far.false))
