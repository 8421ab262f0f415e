use Rattle.std.proofs.Common.{rules}
use Rattle.transfer_rules.proofs.Instructions.{keeps_by_class}
use Rattle.transfer_rules.proofs.rules.mask_of.Goals as goal

pub returns-clause-sound : goal.returns-clause-sound
returns-clause-sound g c =
    keeps_by_class c.args.instr.now c.in-Some.class c.args.operands _ (search rules) c.mask.ensures.sound
