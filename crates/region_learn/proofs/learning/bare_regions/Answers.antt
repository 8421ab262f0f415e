use Rattle.std.proofs.Common.{◌≡◌, ◌∙◌, true, List, map, subst, sym, ap}
use Rattle.enclosure_regions.specs.declared.region_parts.Region.{Region}
use Rattle.enclosure_regions.specs.Regions.{are_regions}
use Rattle.region_learn.specs.Written.{bare}
use Rattle.region_learn.proofs.RegionRules.{bare_regions_rules}
use Rattle.region_learn.proofs.learning.bare_regions.Goals as goal

pub invariant_of-result : goal.invariant_of-result
invariant_of-result c = record {
  keeps_rules = subst (λ (l : List Region). are_regions l ≡ true)
      (sym (c.in_ok-bare_items.ensures ∙ ap (map bare) c.as_slice.ensures))
      (bare_regions_rules c.args.regions.now.items c.args.regions.now.keeps_rules);
}
