use Rattle.std.proofs.Common.{rules}
use Rattle.estimate.proofs.Fairness.{fair_figures}
use Rattle.estimate.proofs.order.Order.estimate.Goals as goal

pub returns-clause-fair : goal.returns-clause-fair
returns-clause-fair c = fair_figures c.args.self c.args.price (search rules)
