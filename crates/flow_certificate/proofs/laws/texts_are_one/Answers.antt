use Rattle.flow_certificate.proofs.OneText.{texts_one}
use Rattle.flow_certificate.proofs.laws.texts_are_one.Goals as goal

pub returns-clause-one : goal.returns-clause-one
returns-clause-one c = texts_one

pub returns-clause-none : goal.returns-clause-none
returns-clause-none c file picture n text failure = failure.no_text picture text
