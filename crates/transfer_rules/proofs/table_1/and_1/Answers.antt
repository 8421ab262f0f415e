use Rattle.std.proofs.Common.{rules}
use Rattle.transfer_rules.specs.declared.classes.Class.TheVariants.{And}
use Rattle.transfer_rules.proofs.Masks.{sound_by_table_1}
use Rattle.transfer_rules.proofs.table_1.and_1.Goals as goal

pub returns-clause-sound : goal.returns-clause-sound
returns-clause-sound c = sound_by_table_1 And c.args.operands _ (search rules) (search rules)
