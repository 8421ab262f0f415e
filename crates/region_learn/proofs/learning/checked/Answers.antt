use Rattle.std.proofs.Common.{◌∙◌, List, ap, sym}
use Rattle.enclosure_regions.specs.declared.region_parts.Region.{Region}
use Rattle.region_learn.specs.LearnAnswers.{regions_fault}
use Rattle.region_learn.proofs.RegionRules.{draft_rules}
use Rattle.region_learn.proofs.learning.checked.Goals as goal

pub invariant_of-regions : goal.invariant_of-regions
invariant_of-regions c = record {
  keeps_rules = draft_rules c.args.bare.now.items c.args.declared c.requires.same c.args.bare.now.keeps_rules
      c.requires.drafts
      (sym (c.regions_fault.ensures ∙ ap (λ (l : List Region). regions_fault l) c.as_slice.ensures) ∙ c.in-None.is);
}
