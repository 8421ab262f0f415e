use Rattle.std.proofs.Common.{◌∙◌, Bool, not, rules, tests}
use Rattle.std.proofs.lemmas.Iterator.{YieldsList-from_slice}
use Rattle.std.proofs.lemmas.Iterator.Adapters.{position_from-zero}
use Rattle.std.proofs.lemmas.Iterator.Search.{position_from_yields_List}
use Rattle.flow_base.specs.Guests.{is_inside}
use Rattle.enclosure_regions.specs.declared.region_parts.Range.{Range}
use Rattle.enclosure_regions.specs.Regions.{is_range}
use Rattle.enclosure_regions.specs.Turns.{start_of}
use Rattle.enclosure_regions.proofs.AskedItems.{asked_in_slice}
use Rattle.enclosure_regions.proofs.ranges_of_regions.outside_place.Goals as goal

pub position-requires-clause-callable : goal.position-requires-clause-callable
position-requires-clause-callable c =
    asked_in_slice is_range (search rules) (λ x q k. search (rules, tests)) (λ x passes. search rules)

pub returns-clause-exact : goal.returns-clause-exact
returns-clause-exact c =
    let test : Range → Bool = λ range. not (is_inside c.args.base (start_of c.args.registers.now range) range.length) in
    position_from_yields_List test _ _ _ c.position.ensures.ran (YieldsList-from_slice c.args.ranges.now cc)
    (λ x b q k. search (rules, tests))
    ∙ position_from-zero test c.args.ranges.now
