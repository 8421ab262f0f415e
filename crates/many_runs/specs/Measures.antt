-- What is measured of several runs together.
use Rattle.std.specs.Prelude.{◌≡◌, ◌≤◌, ℕ, List, [], ◌∷◌, length}
use Rattle.std.specs.List.{AllByRecursion}
use Rattle.cut_file.specs.Pictures.{cut_picture}
use Rattle.elf32_loader.specs.Pictures.{Picture}
use Rattle.enclosure_regions.specs.declared.region_parts.Region.{Region}
use Rattle.flow_base.specs.declared.outputs.Output.{Output}
use Rattle.flow_graph.specs.declared.events.Event.{Event}
use Rattle.location_collapse.specs.Limits.{ExceedsLimit}
use Rattle.measuring.specs.Measures.{IsMeasureOf}
use Rattle.measuring.specs.RunCauses.{Exits}
use Rattle.region_machine.specs.Starts.{guest}
use Rattle.run_labels.specs.Runs.{LabelledRun, run_after, unlabelled}
use Rattle.many_runs.specs.declared.many.Many.{Many}
use Rattle.many_runs.specs.Uniting.{IsUnited}

-- what all the runs share: the table of the mask rules, the program, its public input, its regions and the limit of
-- turns
pub record Setup : Type 0 where
  pub table : ℕ
  pub program : Picture
  pub public_input : List ℕ
  pub regions : List Region
  pub limit : ℕ

abbrev pub setup_of : ℕ → Picture → List ℕ → List Region → ℕ → Setup
setup_of table program public_input regions limit = record {
  table = table;
  program = program;
  public_input = public_input;
  regions = regions;
  limit = limit;
}

-- the start of the run on a secret
abbrev pub start_on : Setup → List ℕ → LabelledRun
start_on setup secret = unlabelled (guest setup.program setup.public_input secret)

-- the run on this secret exits within the limit, these are its events, and its graph exceeds no limit
pub record IsRunOn (setup : Setup) (secret : List ℕ) (events : List Event) : Type 0 where
  pub turns : ℕ
  pub output : Output
  pub exits : Exits setup.table setup.regions (start_on setup secret) setup.limit turns output
  pub all : events ≡ (run_after setup.regions (exits.last ∷ exits.earlier) (start_on setup secret)).events
  pub within : ¬ ExceedsLimit events

-- so is each run on one of the secrets
unfoldable pub AreRunsOn : Setup → List (List ℕ) → List (List Event) → Type 0
AreRunsOn setup [] [] = Unit {0}
AreRunsOn setup [] (events ∷ runs) = ⊥
AreRunsOn setup (secret ∷ secrets) [] = ⊥
AreRunsOn setup (secret ∷ secrets) (events ∷ runs) = IsRunOn setup secret events × AreRunsOn setup secrets runs

abbrev pub first_length : List (List ℕ) → ℕ
first_length [] = 0
first_length (secret ∷ secrets) = length secret

-- each secret has this length
abbrev pub HaveLength : ℕ → List (List ℕ) → Type 0
HaveLength secret_len secrets = AllByRecursion (λ (secret : List ℕ). length secret ≡ secret_len) secrets

-- the runs on all secrets, which have one length, exit within the limit, and this is the measure of them all, whose value
-- is within the limit of a budget
pub record MeasuresTogether (setup : Setup) (secrets : List (List ℕ)) (many : Many) : Type 0 where
  pub alike : HaveLength (first_length secrets) secrets
  pub runs : List (List Event)
  pub are_runs : AreRunsOn setup secrets runs
  pub events : List Event
  pub united : IsUnited runs events
  pub measure : IsMeasureOf (first_length secrets) events many.graph many.value many.flow many.side (cut_picture many.cut)
  pub budget : many.value ≤ 1048576
