use Rattle.flow_base.proofs.SlotTexts.{slot_is_known, slot_is_none}
use Rattle.flow_base.proofs.text_words.slot_named.Goals as goal

pub returns-clause-known : goal.returns-clause-known
returns-clause-known c = slot_is_known c.args.word.now c.slot_read.result c.slot_read.ensures

pub returns-clause-none : goal.returns-clause-none
returns-clause-none c = slot_is_none c.args.word.now c.slot_read.result c.slot_read.ensures
