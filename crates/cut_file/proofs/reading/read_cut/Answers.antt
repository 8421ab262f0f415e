use Rattle.cut_file.proofs.Answering.{answers_fault, answers_only, answers_refused, answers_text}
use Rattle.cut_file.proofs.reading.read_cut.Goals as goal

pub returns-clause-text : goal.returns-clause-text
returns-clause-text c = answers_text c.args.file.now c.cut_of.result c.cut_of.ensures.ok

pub returns-clause-fault : goal.returns-clause-fault
returns-clause-fault c = answers_fault c.args.file.now c.cut_of.result c.cut_of.ensures.err

pub returns-clause-refused : goal.returns-clause-refused
returns-clause-refused c = answers_refused c.args.file.now c.cut_of.result c.cut_of.ensures.err

pub returns-clause-only : goal.returns-clause-only
returns-clause-only c = λ fault known free fits.
    answers_only c.args.file.now c.cut_of.result fault c.cut_of.ensures.ok c.cut_of.ensures.err known free fits
