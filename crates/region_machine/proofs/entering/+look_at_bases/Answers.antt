use Rattle.std.proofs.Common.{◌∙◌}
use Rattle.region_machine.proofs.SlicePatterns.{goes_before, looks_more, looks_none, rest_all, rest_falls}
use Rattle.region_machine.proofs.entering.+look_at_bases.Goals as goal

pub returns-in_default-clause-goes : goal.returns-in_default-clause-goes
returns-in_default-clause-goes g t c = λ turn out after.
    let none = looks_none c.args.ranges.now turn c.in_default.len_below in
    rw none after

pub look_at_bases-requires : goal.look_at_bases-requires
look_at_bases-requires g t c κs within =
    let some = c.in-len1-up.len_at_least in (
      rest_falls c.args.ranges.now t c.decreases some,
      (
        within.0,
        (
          within.1,
          rest_all _ c.args.ranges.now some c.requires,
        ),
      ),
    )

pub returns-clause-goes : goal.returns-clause-goes
returns-clause-goes g t c = λ turn.
    let more = looks_more c.args.ranges.now _ turn c.in-len1-up.len_at_least in
    goes_before c.look_at_bases.result _ _ _ (λ out after. rw more (c.in_ok-look_at.ensures.goes _ out after))
    (c.look_at_bases.ensures.goes turn)

pub returns-clause-memory : goal.returns-clause-memory
returns-clause-memory g t c = c.look_at_bases.ensures.memory ∙ c.look_at.ensures.memory
