use Rattle.std.proofs.Common.{◌≡◌, ◌∙◌}
use Rattle.flow_base.specs.Listed.{is_listed}
use Rattle.acceptance_law.specs.GraphLaws.{CutCoversLaw}
use Rattle.acceptance_law.proofs.GraphSides.{side_closed, side_outside}
use Rattle.acceptance_law.proofs.CutVisits.{cut_contains}
use Rattle.acceptance_law.proofs.TurnKinds.{all_regions}
use Rattle.acceptance_law.specs.Sides.{named_side}
use Rattle.acceptance_law.proofs.graph_laws.cuts_of_runs_cover.Goals as goal

covers_law : CutCoversLaw
covers_law regions events graph halves relays secret_len capacity cut is side proper cut_is slots = record {
  closed = side_closed events graph halves relays is side;
  outside = cut_is.skip 0 ∙ side_outside events graph halves relays is;
  skips = all_regions (λ n. is_listed cut.skip n ≡ (named_side graph halves relays).relay n) cut_is.skip regions;
  contains = cut_contains (named_side graph halves relays) cut secret_len capacity events cut_is slots proper;
}

pub returns : goal.returns
returns c = record { covers = covers_law }
