use Rattle.monitors.proofs.Orders.{steps_in_order, reports_all}
use Rattle.monitors.proofs.laws.pictures_are_taken_in_order.Goals as goal

pub returns-clause-steps : goal.returns-clause-steps
returns-clause-steps c = steps_in_order

pub returns-clause-report : goal.returns-clause-report
returns-clause-report c = reports_all
