-- Why several runs are not measured together.
use Rattle.std.specs.Prelude.{◌≡◌, ◌≢◌, ℕ, ◌+◌, ◌<◌, ◌++◌, List, ◌∷◌, length}
use Rattle.flow_graph.specs.declared.events.Event.{Event}
use Rattle.flow_graph.specs.declared.graphs.Graph.{Graph}
use Rattle.flow_graph.specs.EventGraphs.{IsGraphOf}
use Rattle.location_collapse.specs.Limits.{ExceedsLimit}
use Rattle.max_flow.specs.Flows.{HasNoGreater, IsFlowOf, flow_value}
use Rattle.measuring.specs.Measures.{HasCause}
use Rattle.run_labels.specs.declared.faults.MeasureFault.{MeasureFault}
use Rattle.run_labels.specs.declared.faults.MeasureFault.TheVariants.{Memory as RunMemory}
use Rattle.many_runs.specs.declared.faults.ManyFault.{ManyFault}
use Rattle.many_runs.specs.declared.faults.ManyFault.TheVariants.{Length, Run, UnitedLimit, BudgetLimit, Memory}
use Rattle.many_runs.specs.Measures.{AreRunsOn, HaveLength, Setup, first_length, start_on}
use Rattle.many_runs.specs.Uniting.{IsUnited}

-- the secret with this index, counted from 1, is the first that has another length than the first secret
pub record HasOtherLength (secrets : List (List ℕ)) (index first got : ℕ) : Type 0 where
  pub earlier : List (List ℕ)
  pub secret : List ℕ
  pub later : List (List ℕ)
  pub secrets_are : secrets ≡ earlier ++ secret ∷ later
  pub counted : index ≡ length earlier + 1
  pub first_is : first ≡ first_length secrets
  pub alike : HaveLength first earlier
  pub got_is : got ≡ length secret
  pub other : got ≢ first

-- the run on the secret with this index, counted from 1, is the first that is not measured, and this is why
pub record IsFirstRefused (setup : Setup) (secrets : List (List ℕ)) (index : ℕ) (fault : MeasureFault) : Type 0 where
  pub earlier : List (List ℕ)
  pub secret : List ℕ
  pub later : List (List ℕ)
  pub secrets_are : secrets ≡ earlier ++ secret ∷ later
  pub counted : index ≡ length earlier + 1
  pub runs : List (List Event)
  pub are_runs : AreRunsOn setup earlier runs
  pub cause : HasCause setup.table setup.regions (start_on setup secret) setup.limit fault
  pub named : fault ≢ RunMemory

-- all runs exit, and these are united events of them
pub record HaveUnion (setup : Setup) (secrets : List (List ℕ)) (events : List Event) : Type 0 where
  pub alike : HaveLength (first_length secrets) secrets
  pub runs : List (List Event)
  pub are_runs : AreRunsOn setup secrets runs
  pub united : IsUnited runs events

-- the maximum flow of the graph of the events has this value
pub record HasMaximum (events : List Event) (value : ℕ) : Type 0 where
  pub graph : Graph
  pub graph_of : IsGraphOf events graph
  pub points : List ℕ
  pub links : List ℕ
  pub flow : IsFlowOf graph points links
  pub value_is : flow_value graph points links ≡ value
  pub greatest : HasNoGreater graph value

-- the united graph exceeds a limit
pub record IsTooLarge (setup : Setup) (secrets : List (List ℕ)) : Type 0 where
  pub events : List Event
  pub union : HaveUnion setup secrets events
  pub exceeds : ExceedsLimit events

-- the united graph exceeds no limit, and its maximum flow the limit of a budget
pub record IsTooMuch (setup : Setup) (secrets : List (List ℕ)) (value : ℕ) : Type 0 where
  pub events : List Event
  pub union : HaveUnion setup secrets events
  pub within : ¬ ExceedsLimit events
  pub maximum : HasMaximum events value
  pub over : 1048576 < value

-- the first reason that holds; of lack of memory nothing is said
abbrev pub HasManyCause : Setup → List (List ℕ) → ManyFault → Type 0
HasManyCause setup secrets (Length index first got) = HasOtherLength secrets index first got
HasManyCause setup secrets (Run index fault) =
    HaveLength (first_length secrets) secrets × IsFirstRefused setup secrets index fault
HasManyCause setup secrets UnitedLimit = IsTooLarge setup secrets
HasManyCause setup secrets (BudgetLimit value) = IsTooMuch setup secrets value
HasManyCause setup secrets Memory = Unit {0}
