use Rattle.std.proofs.Common.{sym, ◌∙◌}
use Rattle.cut_file.specs.Pictures.{cut_picture}
use Rattle.cut_file.proofs.LineDrafts.{some_length, trailing_read}
use Rattle.cut_file.proofs.reading.cut_of.Goals as goal

pub returns-else-is_empty-clause-err : goal.returns-else-is_empty-clause-err
returns-else-is_empty-clause-err c = λ _.
    trailing_read c.args.file.now (cut_picture c.in_ok-cut.cut) c.in_ok-cut.rest.now c.in_ok-cut.ensures.ok
    (some_length c.in_ok-cut.rest.now (sym c.is_empty.ensures ∙ c.if-is_empty.false))
