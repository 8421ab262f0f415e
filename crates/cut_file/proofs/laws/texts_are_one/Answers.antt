use Rattle.std.proofs.Common.{sym, ◌∙◌}
use Rattle.cut_file.proofs.FileTexts.{one_cut}
use Rattle.cut_file.proofs.laws.texts_are_one.Goals as goal

pub returns : goal.returns
returns c = (one_cut, λ first second cut a b. a.text ∙ sym b.text)
