use Rattle.flow_certificate.proofs.NotVerified.{not_verified}
use Rattle.flow_certificate.proofs.verifying.verify.Goals as goal

pub returns-in-Some-clause-verified : goal.returns-in-Some-clause-verified
returns-in-Some-clause-verified c verified = absurd (not_verified c.args.certificate.now.graph c.args.certificate.now.solved
    c.args.certificate.now.solved.value c.in-Some.fault c.in-Some.ensures.some verified)
