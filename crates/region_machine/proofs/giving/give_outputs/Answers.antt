use Rattle.std.proofs.Common.{◌∙◌, ap, arith, length}
use Rattle.std.specs.List.{list_all}
use Rattle.enclosure_regions.specs.Regions.{is_range, is_register}
use Rattle.region_machine.proofs.KeptRegistersStay.{stays_more}
use Rattle.region_machine.proofs.SlicePatterns.{gives_parts, goes_before, inside_kept, outs_registers, ranges_few}
use Rattle.region_machine.proofs.SlicePatterns.{ranges_ranges}
use Rattle.region_machine.proofs.giving.give_outputs.Goals as goal

pub give_registers-requires-clause-registers : goal.give_registers-requires-clause-registers
give_registers-requires-clause-registers g c =
    ap (list_all is_register) c.as_slice.ensures ∙ outs_registers c.args.region.now c.requires.rules

pub give_ranges-requires-clause-number : goal.give_ranges-requires-clause-number
give_ranges-requires-clause-number g c =
    omega (arith, ranges_few c.args.region.now c.requires.rules, ap length c.as_slice-2.ensures)

pub give_ranges-requires-clause-ranges : goal.give_ranges-requires-clause-ranges
give_ranges-requires-clause-ranges g c =
    ap (list_all is_range) c.as_slice-2.ensures ∙ ranges_ranges c.args.region.now c.requires.rules

pub give_ranges-requires-clause-inside : goal.give_ranges-requires-clause-inside
give_ranges-requires-clause-inside g c =
    inside_kept c.as_slice-2.result.now c.args.region.now.ranges c.args.registers.now c.args.machine.now
    c.give_registers.new.machine c.as_slice-2.ensures c.give_registers.ensures.stays.0 c.requires.inside

pub returns-clause-goes : goal.returns-clause-goes
returns-clause-goes g c = λ turn.
    let parts = gives_parts c.args.region.now c.args.registers.now c.as_slice.result.now c.as_slice-2.result.now turn
    c.as_slice.ensures c.as_slice-2.ensures in
    goes_before c.give_ranges.result _ _ _ (λ out after. rw parts (c.in_ok-give_registers.ensures.goes _ out after))
    (c.give_ranges.ensures.goes turn)

pub returns-clause-stays : goal.returns-clause-stays
returns-clause-stays g c =
    stays_more c.args.machine.now c.give_registers.new.machine c.give_ranges.new.machine
    c.give_registers.ensures.stays c.give_ranges.ensures.stays

pub returns-clause-same : goal.returns-clause-same
returns-clause-same g c = c.give_ranges.ensures.same ∙ c.give_registers.ensures.same
