use Rattle.std.proofs.Common.{◌==◌, ◌∙◌, rules, sym, tests}
use Rattle.std.proofs.lemmas.Iterator.{YieldsList-from_slice}
use Rattle.std.proofs.lemmas.Iterator.Search.{any_from_yields_List}
use Rattle.enclosure_regions.specs.declared.region_parts.Region.{Region}
use Rattle.enclosure_regions.proofs.Searches.{list_any_map}
use Rattle.enclosure_regions.proofs.reading.has_id.Goals as goal

pub returns : goal.returns
returns c =
    any_from_yields_List (λ (region : Region). region.id == c.args.id) _ _ _ c.any.ensures.ran
    (YieldsList-from_slice c.args.regions.now cc) (λ x b q k. search (rules, tests))
    ∙ sym (list_any_map (λ other. other == c.args.id) (λ (region : Region). region.id) c.args.regions.now)
