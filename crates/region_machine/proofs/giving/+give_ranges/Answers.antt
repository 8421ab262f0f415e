use Rattle.std.proofs.Common.{arith, ◌∙◌}
use Rattle.region_machine.proofs.KeptRegistersStay.{stays_more, stays_same}
use Rattle.region_machine.proofs.SlicePatterns.{first_all, gives_ranges_more, gives_ranges_none, goes_before}
use Rattle.region_machine.proofs.SlicePatterns.{rest_all, rest_falls, rest_length}
use Rattle.region_machine.proofs.giving.+give_ranges.Goals as goal

pub returns-in_default-clause-goes : goal.returns-in_default-clause-goes
returns-in_default-clause-goes g t c = λ turn out after.
    let none = gives_ranges_none c.args.region.now c.args.registers.now c.args.number c.args.ranges.now turn
    c.in_default.len_below in
    rw none after

pub returns-in_default-clause-stays : goal.returns-in_default-clause-stays
returns-in_default-clause-stays g t c = stays_same c.args.machine.now

pub range_start-start-requires : goal.range_start-start-requires
range_start-start-requires g t c =
    first_all _ c.args.ranges.now _ c.in-len1-up.len_at_least c.requires.ranges

pub give_bytes-requires-clause-inside : goal.give_bytes-requires-clause-inside
give_bytes-requires-clause-inside g t c =
    rw c.range_start-start.ensures
    (first_all _ c.args.ranges.now _ c.in-len1-up.len_at_least c.requires.inside)

pub give_ranges-requires : goal.give_ranges-requires
give_ranges-requires g t c κs within =
    let some = c.in-len1-up.len_at_least in (
      rest_falls c.args.ranges.now t c.decreases some,
      (
        within.0,
        (
          within.1,
          (
            c.give_bytes.ensures.memory,
            (
              omega (arith, rest_length c.args.ranges.now some),
              (
                rest_all _ c.args.ranges.now some c.requires.ranges,
                rw c.give_bytes.ensures.stays.0 (rest_all _ c.args.ranges.now some c.requires.inside),
              ),
            ),
          ),
        ),
      ),
    )

pub returns-clause-goes : goal.returns-clause-goes
returns-clause-goes g t c = λ turn.
    let more = gives_ranges_more c.args.region.now c.args.registers.now c.args.number c.range_start-start.result
    c.args.ranges.now _ turn c.in-len1-up.len_at_least c.range_start-start.ensures in
    goes_before c.give_ranges.result _ _ _ (λ out after. rw more (c.in_ok-give_bytes.ensures.goes _ out after))
    (c.give_ranges.ensures.goes turn)

pub returns-clause-stays : goal.returns-clause-stays
returns-clause-stays g t c =
    stays_more c.args.machine.now c.give_bytes.new.machine c.give_ranges.new.machine c.give_bytes.ensures.stays
    c.give_ranges.ensures.stays

pub returns-clause-same : goal.returns-clause-same
returns-clause-same g t c = c.give_ranges.ensures.same ∙ c.give_bytes.ensures.same
