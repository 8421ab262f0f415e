use Rattle.std.proofs.Common.{ap, ◌∙◌}
use Rattle.std.specs.List.{list_all}
use Rattle.enclosure_regions.specs.Regions.{is_register}
use Rattle.region_pieces.proofs.FirstItems.{keep_registers}
use Rattle.region_pieces.proofs.leaving.leave_break.Goals as goal

pub first_kept_break-requires : goal.first_kept_break-requires
first_kept_break-requires g c =
    ap (list_all is_register) c.as_slice.ensures ∙ keep_registers c.args.entry.now.region.now c.args.entry.now.keeps_rules
