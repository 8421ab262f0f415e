use Rattle.std.proofs.Common.{rules, tests}
use Rattle.std.proofs.lemmas.Iterator.{YieldsList-from_slice}
use Rattle.std.proofs.lemmas.Iterator.Search.{any_from_yields_List}
use Rattle.enclosure_regions.specs.declared.region_parts.Range.{Range}
use Rattle.enclosure_regions.specs.Breaks.{has_byte}
use Rattle.enclosure_regions.specs.Regions.{is_range}
use Rattle.enclosure_regions.specs.Turns.{start_of}
use Rattle.enclosure_regions.proofs.AskedItems.{asked_in_slice}
use Rattle.enclosure_regions.proofs.ranges_of_regions.has_byte.Goals as goal

pub any-requires : goal.any-requires
any-requires c = record {
  can = tt;
  finite = tt;
  callable = asked_in_slice is_range (search rules) (λ x q k. search (rules, tests)) (λ x passes. search rules);
}

pub returns : goal.returns
returns c =
    any_from_yields_List
    (λ (range : Range). has_byte (start_of c.args.registers.now range) range.length c.args.address) _ _ _
    c.any.ensures.ran (YieldsList-from_slice c.args.region.now.ranges cc) (λ x b q k. search (rules, tests))
