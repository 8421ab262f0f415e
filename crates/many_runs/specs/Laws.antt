-- What tables 1, 2 and 3 decide of several runs.
use Rattle.std.specs.Prelude.{◌≡◌, ℕ, List}
use Rattle.many_runs.specs.declared.faults.ManyFault.{ManyFault}
use Rattle.many_runs.specs.declared.faults.ManyFault.TheVariants.{Memory}
use Rattle.many_runs.specs.declared.many.Many.{Many}
use Rattle.many_runs.specs.Causes.{HasManyCause}
use Rattle.many_runs.specs.Measures.{MeasuresTogether, Setup}
use Rattle.transfer_rules.specs.Tables.{IsDeciding}

-- runs that are measured together have no cause not to be
abbrev pub MeasuredTogetherHaveNoCause : Type 0
MeasuredTogetherHaveNoCause =
    (setup : Setup) (secrets : List (List ℕ)) (many : Many) (fault : ManyFault) → IsDeciding setup.table →
    MeasuresTogether setup secrets many → HasManyCause setup secrets fault → fault ≡ Memory
