use Rattle.std.proofs.Common.{rules}
use Rattle.run_look.proofs.Orders.{order_is}
use Rattle.run_look.proofs.reproof.keeps_order.Goals as goal

pub returns-in-Fits-clause-value : goal.returns-in-Fits-clause-value
returns-in-Fits-clause-value c = order_is c.are_in_order.result c.args.group.now.said (search rules)
