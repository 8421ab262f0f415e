-- Runs that are measured together have no cause not to be.
use Rattle.std.proofs.Common.{ℕ, ◌≤◌, List, refl, arith}
use Rattle.many_runs.specs.declared.faults.ManyFault.TheVariants.{Length, Run, UnitedLimit, BudgetLimit, Memory}
use Rattle.many_runs.specs.declared.many.Many.{Many}
use Rattle.many_runs.specs.Causes.{HasMaximum, HaveUnion, IsTooLarge, IsTooMuch}
use Rattle.many_runs.specs.Laws.{MeasuredTogetherHaveNoCause}
use Rattle.many_runs.specs.Measures.{MeasuresTogether, Setup}
use Rattle.many_runs.proofs.OneMany.{none-refused, same_length, value_most, within-too}
use Rattle.transfer_rules.specs.Tables.{IsDeciding}

-- ---- what is measured together

union_of : (setup : Setup) (secrets : List (List ℕ)) (many : Many) (m : MeasuresTogether setup secrets many) →
    HaveUnion setup secrets m.events
union_of setup secrets many m =
    record { alike = m.alike; runs = m.runs; are_runs = m.are_runs; united = m.united }

maximum_of : (setup : Setup) (secrets : List (List ℕ)) (many : Many) (m : MeasuresTogether setup secrets many) →
    HasMaximum m.events many.value
maximum_of setup secrets many m = record {
  graph = many.graph;
  graph_of = m.measure.graph;
  points = many.flow.points;
  links = many.flow.links;
  flow = m.measure.flow;
  value_is = m.measure.value;
  greatest = m.measure.greatest;
}

-- ---- the law

too_large : (setup : Setup) (secrets : List (List ℕ)) (many : Many) → IsDeciding setup.table →
    MeasuresTogether setup secrets many → IsTooLarge setup secrets → ⊥
too_large setup secrets many deciding m large =
    m.measure.within
    (within-too setup secrets deciding m.events large.events (union_of setup secrets many m) large.union large.exceeds)

too_much : (setup : Setup) (secrets : List (List ℕ)) (many : Many) (value : ℕ) → IsDeciding setup.table →
    MeasuresTogether setup secrets many → IsTooMuch setup secrets value → ⊥
too_much setup secrets many value deciding m much =
    let most : value ≤ many.value =
    value_most setup secrets deciding much.events m.events value many.value much.union (union_of setup secrets many m)
    much.maximum (maximum_of setup secrets many m) in
    omega (arith, most, much.over, m.budget)

pub measured_together : MeasuredTogetherHaveNoCause
measured_together setup secrets many (Length index first got) deciding m cause =
    absurd (same_length secrets index first got m.alike cause)
measured_together setup secrets many (Run index fault) deciding m cause =
    absurd (none-refused setup secrets deciding index fault m.events (union_of setup secrets many m) cause.1)
measured_together setup secrets many UnitedLimit deciding m cause =
    absurd (too_large setup secrets many deciding m cause)
measured_together setup secrets many (BudgetLimit value) deciding m cause =
    absurd (too_much setup secrets many value deciding m cause)
measured_together setup secrets many Memory deciding m cause = refl
