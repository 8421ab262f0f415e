use Rattle.cut_file.proofs.FoldLengths.{fold_short}
use Rattle.cut_file.proofs.TextLengths.{text_short}
use Rattle.cut_file.proofs.laws.texts_are_short.Goals as goal

pub returns-clause-text : goal.returns-clause-text
returns-clause-text c = text_short

pub returns-clause-fold : goal.returns-clause-fold
returns-clause-fold c = fold_short
