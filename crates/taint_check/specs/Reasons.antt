-- Why a turn leaves a check with one machine unclear, in the order in which reasons are told.
use Rattle.std.specs.Prelude.{ℕ, nat_lt, Bool, true, false, List, Option, Some, None}
use Rattle.enclosure_regions.specs.declared.break_kinds.Break.{Break}
use Rattle.rv32im_machine.specs.declared.stepping.Stepped.{Stepped}
use Rattle.rv32im_machine.specs.declared.stepping.Stepped.TheVariants.{Ran, Exited, Stopped}
use Rattle.rv32im_machine.specs.Folds.{real_end}
use Rattle.region_machine.specs.Breaking.{Breaks}
use Rattle.run_labels.specs.Runs.{entered_number}
use Rattle.run_labels.specs.TurnLabels.{at_start}
use Rattle.lockstep_replay.specs.Tasks.{Task, Limits}
use Rattle.lockstep_replay.specs.Verdicts.{counted_bits}
use Rattle.masked_turns.specs.declared.uses.LeftBits.{LeftBits}
use Rattle.masked_turns.specs.declared.uses.SecretLook.{SecretLook}
use Rattle.masked_turns.specs.declared.uses.SecretLook.TheVariants.{Code, BaseRegister}
use Rattle.masked_turns.specs.Deciding.{left_in}
use Rattle.masked_turns.specs.Looking.{looked_in}
use Rattle.taint_check.specs.declared.whys.TaintWhy.{TaintWhy}
use Rattle.taint_check.specs.declared.whys.TaintWhy.TheVariants.{RealFault, RegionBreak, BudgetOverrun, Left}
use Rattle.taint_check.specs.declared.whys.TaintWhy.TheVariants.{SecretCode, BaseSecret}
use Rattle.taint_check.specs.Cleared.{MaskedRun, kind_at, walk_at, cutting_at, is_hidden}

-- bits that are left decide
abbrev pub unclear_left : Option LeftBits → Option TaintWhy
unclear_left None = None
unclear_left (Some left) = Some (Left left.point left.mask)

-- or before that more bits have crossed than the budget
abbrev pub unclear_budget : Bool → ℕ → ℕ → Option LeftBits → Option TaintWhy
unclear_budget true budget needed left = Some (BudgetOverrun budget (counted_bits needed))
unclear_budget false budget needed left = unclear_left left

-- or before that the run is stopped
abbrev pub unclear_mode : Stepped → ℕ → ℕ → Option LeftBits → Option TaintWhy
unclear_mode (Stopped fault) budget needed left = Some (RealFault fault)
unclear_mode Ran budget needed left = unclear_budget (nat_lt budget needed) budget needed left
unclear_mode (Exited status) budget needed left = unclear_budget (nat_lt budget needed) budget needed left

-- or before that it breaks a region
abbrev pub unclear_broken : Option Break → Option TaintWhy → Option TaintWhy
unclear_broken (Some broken) later = Some (RegionBreak broken)
unclear_broken None later = later

-- or before that it looks at what may differ
abbrev pub unclear_looked : Option SecretLook → Option TaintWhy → Option TaintWhy
unclear_looked (Some (Code pc)) later = Some (SecretCode pc)
unclear_looked (Some (BaseRegister region register)) later = Some (BaseSecret region register)
unclear_looked None later = later

-- of a turn with this look and these bits left at a decision, that breaks a region so and leaves the guest in this mode,
-- so many bits having crossed
abbrev pub unclear_of : Option SecretLook → Option Break → Stepped → ℕ → ℕ → Option LeftBits → Option TaintWhy
unclear_of look broken mode budget needed left = unclear_looked look (unclear_broken broken (unclear_mode mode budget needed left))

-- a hidden turn looks at no mask
abbrev pub look_unless : Bool → Task → List ℕ → MaskedRun → Option SecretLook
look_unless true task answers run = None
look_unless false task answers run =
    looked_in (entered_number (kind_at task run)) (cutting_at task run) run.place.past (at_start run.labels) answers
    (walk_at task run)

abbrev pub left_unless : Bool → Task → List ℕ → MaskedRun → Option LeftBits
left_unless true task answers run = None
left_unless false task answers run =
    left_in (cutting_at task run) run.place.past (at_start run.labels) answers (walk_at task run)

-- why the next turn of a run leaves the check unclear, if it does, where so many bits have crossed up to and with it
abbrev pub unclear_turned : Task → Limits → ℕ → List ℕ → MaskedRun → Option TaintWhy
unclear_turned task limits needed answers run =
    unclear_of (look_unless (is_hidden task.enclosures (kind_at task run)) task answers run)
    (Breaks task.enclosures.regions run.place.state) (real_end (walk_at task run)).control.mode limits.budget needed
    (left_unless (is_hidden task.enclosures (kind_at task run)) task answers run)
