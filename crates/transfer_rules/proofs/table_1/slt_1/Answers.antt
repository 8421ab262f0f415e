use Rattle.std.proofs.Common.{rules}
use Rattle.transfer_rules.specs.declared.classes.Class.TheVariants.{Slt}
use Rattle.transfer_rules.proofs.Masks.{sound_by_table_1}
use Rattle.transfer_rules.proofs.table_1.slt_1.Goals as goal

pub returns-clause-sound : goal.returns-clause-sound
returns-clause-sound c = sound_by_table_1 Slt c.args.operands _ (search rules) (search rules)
