use Rattle.std.proofs.Common.{◌∙◌}
use Rattle.region_machine.proofs.KeptRegistersStay.{stays_more, stays_same}
use Rattle.region_machine.proofs.SlicePatterns.{clears_registers_more, clears_registers_none, first_all, goes_before}
use Rattle.region_machine.proofs.SlicePatterns.{rest_all, rest_falls}
use Rattle.region_machine.proofs.clearing.+clear_registers.Goals as goal

pub returns-in_default-clause-goes : goal.returns-in_default-clause-goes
returns-in_default-clause-goes g t c = λ turn out after.
    let none = clears_registers_none c.args.registers.now turn c.in_default.len_below in
    rw none after

pub returns-in_default-clause-stays : goal.returns-in_default-clause-stays
returns-in_default-clause-stays g t c = stays_same c.args.machine.now

pub clear_register-requires-clause-register : goal.clear_register-requires-clause-register
clear_register-requires-clause-register g t c =
    first_all _ c.args.registers.now _ c.in-len1-up.len_at_least c.requires.registers

pub clear_registers-requires : goal.clear_registers-requires
clear_registers-requires g t c κs within =
    let some = c.in-len1-up.len_at_least in (
      rest_falls c.args.registers.now t c.decreases some,
      (
        within.0,
        (
          within.1,
          (
            c.clear_register.ensures.memory,
            rest_all _ c.args.registers.now some c.requires.registers,
          ),
        ),
      ),
    )

pub returns-clause-goes : goal.returns-clause-goes
returns-clause-goes g t c = λ turn.
    let more = clears_registers_more c.args.registers.now turn c.in-len1-up.len_at_least in
    goes_before c.clear_registers.result _ _ _ (λ out after. rw more (c.in_ok-clear_register.ensures.goes _ out after))
    (c.clear_registers.ensures.goes turn)

pub returns-clause-stays : goal.returns-clause-stays
returns-clause-stays g t c =
    stays_more c.args.machine.now c.clear_register.new.machine c.clear_registers.new.machine
    c.clear_register.ensures.stays c.clear_registers.ensures.stays

pub returns-clause-same : goal.returns-clause-same
returns-clause-same g t c = c.clear_registers.ensures.same ∙ c.clear_register.ensures.same
