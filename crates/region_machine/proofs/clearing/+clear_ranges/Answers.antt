use Rattle.std.proofs.Common.{◌∙◌}
use Rattle.region_machine.proofs.KeptRegistersStay.{stays_more, stays_same}
use Rattle.region_machine.proofs.SlicePatterns.{clears_ranges_more, clears_ranges_none, first_all, goes_before}
use Rattle.region_machine.proofs.SlicePatterns.{rest_all, rest_falls}
use Rattle.region_machine.proofs.clearing.+clear_ranges.Goals as goal

pub returns-in_default-clause-goes : goal.returns-in_default-clause-goes
returns-in_default-clause-goes g t c = λ turn out after.
    let none = clears_ranges_none c.args.registers.now c.args.ranges.now turn c.in_default.len_below in
    rw none after

pub returns-in_default-clause-stays : goal.returns-in_default-clause-stays
returns-in_default-clause-stays g t c = stays_same c.args.machine.now

pub range_start-requires : goal.range_start-requires
range_start-requires g t c =
    first_all _ c.args.ranges.now _ c.in-len1-up.len_at_least c.requires.ranges

pub clear_bytes-requires-clause-inside : goal.clear_bytes-requires-clause-inside
clear_bytes-requires-clause-inside g t c =
    rw c.range_start.ensures
    (first_all _ c.args.ranges.now _ c.in-len1-up.len_at_least c.requires.inside)

pub clear_ranges-requires : goal.clear_ranges-requires
clear_ranges-requires g t c κs within =
    let some = c.in-len1-up.len_at_least in (
      rest_falls c.args.ranges.now t c.decreases some,
      (
        within.0,
        (
          within.1,
          (
            c.clear_bytes.ensures.memory,
            (
              rest_all _ c.args.ranges.now some c.requires.ranges,
              rw c.clear_bytes.ensures.stays.0 (rest_all _ c.args.ranges.now some c.requires.inside),
            ),
          ),
        ),
      ),
    )

pub returns-clause-goes : goal.returns-clause-goes
returns-clause-goes g t c = λ turn.
    let more = clears_ranges_more c.args.registers.now c.range_start.result c.args.ranges.now _ turn
    c.in-len1-up.len_at_least c.range_start.ensures in
    goes_before c.clear_ranges.result _ _ _ (λ out after. rw more (c.in_ok-clear_bytes.ensures.goes _ out after))
    (c.clear_ranges.ensures.goes turn)

pub returns-clause-stays : goal.returns-clause-stays
returns-clause-stays g t c =
    stays_more c.args.machine.now c.clear_bytes.new.machine c.clear_ranges.new.machine c.clear_bytes.ensures.stays
    c.clear_ranges.ensures.stays

pub returns-clause-same : goal.returns-clause-same
returns-clause-same g t c = c.clear_ranges.ensures.same ∙ c.clear_bytes.ensures.same
