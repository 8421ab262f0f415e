use Rattle.std.proofs.Common.{ap, ◌∙◌, get_or, None}
use Rattle.enclosure_regions.specs.declared.region_parts.Range.{Range}
use Rattle.enclosure_regions.specs.Turns.{start_of}
use Rattle.flow_base.specs.Guests.{is_inside}
use Rattle.region_pieces.proofs.FirstItems.{first_all, rest_all, rest_falls}
use Rattle.region_pieces.proofs.leaving.+put_ranges.Goals as goal

pub range_start-start-requires : goal.range_start-start-requires
range_start-start-requires g t c =
    first_all _ c.args.ranges.now _ c.in-len1-up.len_at_least c.requires.ranges

pub put_range-requires : goal.put_range-requires
put_range-requires g t c =
    let first : Range = get_or c.args.ranges.now 0 (record { base = None; offset = 0; length = 0 }) in
    ap (λ s. is_inside c.args.entry.now.machine.now.setting.base s first.length)
    (c.range_start-start.ensures ∙ ap (λ r. start_of r first) c.registers.ensures)
    ∙ first_all (λ (range : Range). is_inside c.args.entry.now.machine.now.setting.base
    (start_of c.args.entry.now.machine.now.store.registers range) range.length) c.args.ranges.now
    (record { base = None; offset = 0; length = 0 }) c.in-len1-up.len_at_least c.requires.inside

pub put_ranges-requires : goal.put_ranges-requires
put_ranges-requires g t c = (
  rest_falls c.args.ranges.now t c.decreases c.in-len1-up.len_at_least,
  (
    rest_all _ c.args.ranges.now c.in-len1-up.len_at_least c.requires.ranges,
    rest_all (λ (range : Range). is_inside c.args.entry.now.machine.now.setting.base
        (start_of c.args.entry.now.machine.now.store.registers range) range.length) c.args.ranges.now
        c.in-len1-up.len_at_least c.requires.inside,
  ),
)
