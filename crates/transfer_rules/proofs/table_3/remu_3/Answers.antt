use Rattle.std.proofs.Common.{rules}
use Rattle.transfer_rules.specs.declared.classes.Class.TheVariants.{Remu}
use Rattle.transfer_rules.proofs.RangeMasks.{sound_by_table_3}
use Rattle.transfer_rules.proofs.table_3.remu_3.Goals as goal

pub returns-clause-sound : goal.returns-clause-sound
returns-clause-sound c = sound_by_table_3 Remu c.args.operands _ (search rules) (search rules)
