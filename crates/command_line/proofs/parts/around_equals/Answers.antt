use Rattle.command_line.proofs.Equals.{parted}
use Rattle.command_line.proofs.parts.around_equals.Goals as goal

pub returns-clause-has : goal.returns-clause-has
returns-clause-has c = (parted c.args.word.now c.split_once.result c.split_once.ensures.cases).has

pub returns-clause-name : goal.returns-clause-name
returns-clause-name c = (parted c.args.word.now c.split_once.result c.split_once.ensures.cases).name

pub returns-clause-value : goal.returns-clause-value
returns-clause-value c = (parted c.args.word.now c.split_once.result c.split_once.ensures.cases).value

pub returns-clause-none : goal.returns-clause-none
returns-clause-none c = (parted c.args.word.now c.split_once.result c.split_once.ensures.cases).none
