use Rattle.std.proofs.Common.{rules, refl}
use Rattle.rv32im_decode.specs.declared.instructions.OpKind.TheVariants as op
use Rattle.transfer_rules.specs.declared.classes.Class.TheVariants.{Srl}
use Rattle.transfer_rules.proofs.Operations.{by_each}
use Rattle.transfer_rules.proofs.ShiftRanges.{keeps_by_range}
use Rattle.transfer_rules.proofs.shifts_3.srl_3.Goals as goal

pub returns-clause-sound : goal.returns-clause-sound
returns-clause-sound c =
    by_each Srl c.args.operands _ (keeps_by_range c.args.operands op.Srl _ (search rules) refl (search rules), tt)
