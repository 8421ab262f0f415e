-- What a certificate keeps: numbers below 2^48, and points that have a text.
use Rattle.std.specs.Prelude.{ℕ, ◌^◌, ◌&&◌, nat_lt, Bool}
use Rattle.flow_base.specs.Points.{is_slot}
use Rattle.flow_base.specs.declared.points.Point.{Point}
use Rattle.flow_graph.specs.declared.nodes.Node.{Node}

-- a number that a certificate can name
abbrev pub is_number : ℕ → Bool
is_number number = nat_lt number (2 ^ 48)

-- the number of a region, or 0
abbrev pub is_region_or_outside : ℕ → Bool
is_region_or_outside region = nat_lt region 65536

-- a point that a certificate can name
abbrev pub is_certificate_point : Point → Bool
is_certificate_point point = is_region_or_outside point.region && (nat_lt point.address (2 ^ 32) && is_slot point.slot)

abbrev pub is_node : Node → Bool
is_node node = is_number node.capacity && is_certificate_point node.point

-- what the types of a region and an address keep
abbrev pub is_placed : Node → Bool
is_placed node = is_region_or_outside node.point.region && nat_lt node.point.address (2 ^ 32)

-- a point with a known slot, whose capacity a certificate can name
abbrev pub has_name : Node → Bool
has_name node = is_number node.capacity && is_slot node.point.slot
