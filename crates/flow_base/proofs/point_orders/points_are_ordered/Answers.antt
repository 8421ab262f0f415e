use Rattle.flow_base.proofs.PointOrders.{one_same, points_numbered, one_if_same}
use Rattle.flow_base.proofs.point_orders.points_are_ordered.Goals as goal

pub returns-clause-same : goal.returns-clause-same
returns-clause-same c = λ p q. (one_if_same p q, one_same p q)

pub returns-clause-order : goal.returns-clause-order
returns-clause-order c = points_numbered
