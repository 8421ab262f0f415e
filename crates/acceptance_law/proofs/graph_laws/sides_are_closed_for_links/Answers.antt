use Rattle.acceptance_law.proofs.GraphSides.{side_closed}
use Rattle.acceptance_law.proofs.GraphCapacities.{capacity_law, split_bits_within}
use Rattle.acceptance_law.proofs.graph_laws.sides_are_closed_for_links.Goals as goal

pub returns : goal.returns
returns c = record { closed = side_closed; capacity = capacity_law; split = split_bits_within }
