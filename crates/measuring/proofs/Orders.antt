-- Points that a graph takes for the same are inner ones alike.
use Rattle.std.proofs.Common.{◌≡◌, ℕ, true, List, ap}
use Rattle.flow_base.specs.declared.points.Point.{Point}
use Rattle.flow_base.specs.PointOrders.{is_same}
use Rattle.flow_base.proofs.PointOrders.{one_if_same}
use Rattle.acceptance_law.specs.RunCuts.{is_inner}

pub inner_alike : (skip : List ℕ) (p q : Point) → is_same p q ≡ true → is_inner skip p ≡ is_inner skip q
inner_alike skip p q same = ap (is_inner skip) (one_if_same p q same)
