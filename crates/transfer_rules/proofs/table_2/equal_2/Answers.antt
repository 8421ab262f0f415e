use Rattle.std.proofs.Common.{rules}
use Rattle.transfer_rules.specs.declared.classes.Class.TheVariants.{Equal}
use Rattle.transfer_rules.proofs.NarrowMasks.{sound_by_table_2}
use Rattle.transfer_rules.proofs.table_2.equal_2.Goals as goal

pub returns-clause-sound : goal.returns-clause-sound
returns-clause-sound c = sound_by_table_2 Equal c.args.operands _ (search rules) (search rules)
