use Rattle.transfer_rules.proofs.Instructions.{target_by_sum}
use Rattle.transfer_rules.proofs.rules.target_mask.Goals as goal

pub returns-clause-sound : goal.returns-clause-sound
returns-clause-sound g c = target_by_sum c.args.operands c.mask-sum.result c.mask-sum.ensures.sound
