use Rattle.std.proofs.Common.{rules}
use Rattle.transfer_rules.specs.declared.classes.Class.TheVariants.{Div}
use Rattle.transfer_rules.proofs.RangeMasks.{sound_by_table_3}
use Rattle.transfer_rules.proofs.table_3.div_3.Goals as goal

pub returns-then-is_unsigned-2-clause-sound : goal.returns-then-is_unsigned-2-clause-sound
returns-then-is_unsigned-2-clause-sound c = sound_by_table_3 Div c.args.operands _ (search rules) (search rules)

pub returns-else-is_unsigned-clause-sound : goal.returns-else-is_unsigned-clause-sound
returns-else-is_unsigned-clause-sound c = sound_by_table_3 Div c.args.operands _ (search rules) (search rules)
