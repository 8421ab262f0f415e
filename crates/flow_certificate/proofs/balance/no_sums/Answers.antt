use Rattle.std.proofs.lemmas.List.{get_or-replicate}
use Rattle.flow_certificate.proofs.balance.no_sums.Goals as goal

pub returns : goal.returns
returns c k below = get_or-replicate 4096 k 0 0 below
