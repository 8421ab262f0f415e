use Rattle.std.proofs.Common.{inr}
use Rattle.std.proofs.lemmas.Result.{IfErr-weaker}
use Rattle.serde_json.specs.View.{view}
use Rattle.enclosure_regions.proofs.region_files.read_regions.Goals as goal

pub returns-clause-err : goal.returns-clause-err
returns-clause-err c =
    IfErr-weaker c.regions.result _ _
    (λ fault known free. inr (view c.in_ok-value.value, c.in_ok-value.ensures.ok, known free))
    c.regions.ensures.err
