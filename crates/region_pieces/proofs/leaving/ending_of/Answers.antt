use Rattle.std.proofs.Common.{ap, ◌∙◌}
use Rattle.std.specs.List.{list_all}
use Rattle.enclosure_regions.specs.Regions.{is_range, is_register}
use Rattle.region_pieces.proofs.FirstItems.{outs_registers, ranges_ranges}
use Rattle.region_pieces.proofs.leaving.ending_of.Goals as goal

pub put_registers-requires : goal.put_registers-requires
put_registers-requires g c =
    ap (list_all is_register) c.as_slice.ensures ∙ outs_registers c.args.entry.now.region.now c.args.entry.now.keeps_rules

pub put_ranges-requires-clause-ranges : goal.put_ranges-requires-clause-ranges
put_ranges-requires-clause-ranges g c =
    ap (list_all is_range) c.as_slice-2.ensures ∙ ranges_ranges c.args.entry.now.region.now c.args.entry.now.keeps_rules
