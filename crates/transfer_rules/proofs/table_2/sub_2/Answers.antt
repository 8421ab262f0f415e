use Rattle.std.proofs.Common.{rules}
use Rattle.transfer_rules.specs.declared.classes.Class.TheVariants.{Sub}
use Rattle.transfer_rules.proofs.NarrowMasks.{sound_by_table_2}
use Rattle.transfer_rules.proofs.table_2.sub_2.Goals as goal

pub returns-clause-sound : goal.returns-clause-sound
returns-clause-sound c = sound_by_table_2 Sub c.args.operands _ (search rules) (search rules)
