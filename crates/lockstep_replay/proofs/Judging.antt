-- The verdict on an accepted secret: no condition fails in any turn up to the exit.
use Rattle.std.proofs.Common.{◌≡◌, ℕ, zero, suc, ◌+◌, ◌==◌, ◌≤◌, List, [], ◌++◌, length, refl, ap, subst, sym, ◌∙◌}
use Rattle.std.proofs.Common.{Bool, true, false, arith}
use Rattle.std.proofs.lemmas.Bool.Decides.{Decides-eqb}
use Rattle.std.specs.Prelude.{if◌then◌else◌, None}
use Rattle.flow_base.specs.declared.outputs.Output.{Output}
use Rattle.crossing_bits.specs.Askers.{feed}
use Rattle.rv32im_machine.specs.declared.stepping.Fault.{Fault}
use Rattle.rv32im_machine.specs.declared.stepping.Stepped.{Stepped}
use Rattle.rv32im_machine.specs.declared.stepping.Stepped.TheVariants.{Ran, Exited, Stopped}
use Rattle.lockstep_replay.specs.declared.verdicts.Why.TheVariants.{SecretLength}
use Rattle.region_machine.specs.Runs.{Place}
use Rattle.replay_machine.specs.Runs.{ReplayPlace}
use Rattle.lockstep_replay.specs.Tasks.{Task, Limits, real_start, real_of, enclosed_of, common_of, Cross}
use Rattle.lockstep_replay.specs.Tasks.{replay_start, replay_of}
use Rattle.lockstep_replay.specs.Acceptance.{HasExited, Done, Follows, Accept}
use Rattle.lockstep_replay.specs.Verdicts.{Judgement, Accepts, Rejects, fed_of, why_after}
use Rattle.lockstep_replay.specs.Verdicts.{judged_mode, judged_after, judged_from}
use Rattle.lockstep_replay.specs.VerdictLaws.{AcceptsLaw, RejectedLaw}
use Rattle.region_machine.proofs.Stillness.{IsOver}
use Rattle.region_machine.proofs.OutputGrows.{Longer}
use Rattle.lockstep_replay.proofs.Stillness.{real_later, unbroken_before, cross_later}
use Rattle.lockstep_replay.proofs.RunsGrow.{cross_begins, cross_grows, common_most, written, rewritten, real_run_grows}
use Rattle.lockstep_replay.proofs.RunsGrow.{replay_more_grows, same_beginning}
use Rattle.lockstep_replay.proofs.ExitsAreExposed.{ran_enclosed}
use Rattle.lockstep_replay.proofs.Bounds.{over_exited, later_follows, done_law}
use Rattle.lockstep_replay.proofs.Conditions.{NotStopped, Alike, none_of, same_alike}
use Rattle.lockstep_replay.proofs.Accepting.{FineAt, exit_output}
use Rattle.lockstep_replay.proofs.Causes.{start_runs}

-- where the real run has exited after some turn, it has with the output
real_status :
    (task : Task) (secret : List ℕ) (j turns status : ℕ) (output : Output) → j ≤ turns →
    (real_of task secret j).state.control.mode ≡ Exited status → HasExited (real_of task secret turns).state output →
    HasExited (real_of task secret j).state output
real_status task secret j turns status output below m exits =
    subst (λ (p : Place). HasExited p.state output) (real_later task.enclosures (real_start task secret) j turns below
    (over_exited (real_of task secret j).state.control.mode status m)) exits

over_stopped : (mode : Stepped) (fault : Fault) → mode ≡ Stopped fault → IsOver mode
over_stopped mode fault e = subst (λ m. IsOver m) (sym e) tt

-- it is not stopped before its exit
never_stopped :
    (task : Task) (secret : List ℕ) (j turns : ℕ) (output : Output) → j ≤ turns →
    HasExited (real_of task secret turns).state output → NotStopped (real_of task secret j).state.control.mode
never_stopped task secret j turns output below exits = λ fault stopped.
    let same : real_of task secret turns ≡ real_of task secret j =
    real_later task.enclosures (real_start task secret) j turns below
    (over_stopped (real_of task secret j).state.control.mode fault stopped) in
    let both : Stopped fault ≡ Exited output.status =
    sym stopped ∙ (ap (λ (p : Place). p.state.control.mode) (sym same) ∙ exits.status) in cc

-- where both have exited, they have with the output's status
status_agrees :
    (task : Task) (limits : Limits) (secret : List ℕ) (j : ℕ) (output : Output) → j ≤ limits.turns →
    Accept task limits secret output → (follows : Follows task secret j) → (status other : ℕ) →
    (real_of task secret j).state.control.mode ≡ Exited status → follows.place.state.control.mode ≡ Exited other →
    status ≡ other
status_agrees task limits secret j output below accept follows status other m n =
    let over : IsOver (real_of task secret j).state.control.mode =
    over_exited (real_of task secret j).state.control.mode status m in
    let exits : HasExited (real_of task secret j).state output =
    real_status task secret j limits.turns status output below m accept.exits in
    let copied : HasExited follows.place.state output =
    subst (λ (p : ReplayPlace). HasExited p.state output)
    (sym (later_follows task secret j limits.turns below over follows accept.last)) accept.replay_exits in
    let first : Exited status ≡ Exited output.status = sym m ∙ exits.status in
    let second : Exited other ≡ Exited output.status = sym n ∙ copied.status in cc

alike_accepted :
    (task : Task) (limits : Limits) (secret : List ℕ) (j : ℕ) (output : Output) → j ≤ limits.turns →
    Accept task limits secret output → Follows task secret j →
    Alike (real_of task secret j).state (fed_of task secret j)
alike_accepted task limits secret j output below accept follows =
    let done : Done task limits.turns (Cross task secret limits.turns) output =
    done_law task limits secret output accept in
    let real_more : Longer (written (real_of task secret j)) (written (real_of task secret limits.turns)) =
    real_run_grows task.enclosures (real_start task secret) j limits.turns below in
    let begins : (more : List Bool) × (Cross task secret limits.turns ≡ Cross task secret j ++ more) =
    cross_begins task.enclosures task.masks (real_start task secret) j limits.turns below in
    let copy_more : Longer (rewritten follows.place) (rewritten done.place) =
    replay_more_grows task.enclosures task.masks (replay_start task) (Cross task secret j) begins.0
    (common_of task secret j) limits.turns follows.place done.place []
    (omega (arith, below, common_most task.enclosures j (real_start task secret))) follows.uses
    (ap (λ s. feed (replay_of task limits.turns) s) (sym begins.1) ∙ done.uses) in
    let ends : written (real_of task secret limits.turns) ≡ rewritten done.place =
    accept.exits.bytes ∙ sym done.exited.bytes in record {
      place = follows.place;
      uses = follows.uses;
      inside = follows.inside;
      address = follows.mark.address;
      mode =
          same_alike (real_of task secret j).state.control.mode follows.place.state.control.mode follows.mark.ended
          (status_agrees task limits secret j output below accept follows);
      output =
          same_beginning (written (real_of task secret j)) (rewritten follows.place) real_more.0 copy_more.0
          (sym real_more.1 ∙ (ends ∙ copy_more.1)) follows.mark.written;
    }

-- no condition fails within the limit
fine_accepted :
    (task : Task) (limits : Limits) (secret : List ℕ) (j : ℕ) (output : Output) → suc j ≤ limits.turns →
    Accept task limits secret output → FineAt task limits secret j
fine_accepted task limits secret j output below accept = record {
  unbroken =
      unbroken_before task.enclosures (real_start task secret) (suc j) limits.turns below accept.unbroken;
  running =
      never_stopped task secret (suc j) limits.turns output below accept.exits;
  within = omega (
    arith,
    cross_grows task.enclosures task.masks (real_start task secret) (suc j) limits.turns below,
    accept.within,
  );
  beside = λ exposed.
      alike_accepted task limits secret (suc j) output below accept (accept.follows j (omega (arith, below)) exposed);
}

exit_same : (bytes : List ℕ) (status : ℕ) (output : Output) → bytes ≡ output.bytes → status ≡ output.status →
    exit_output bytes status ≡ output
exit_same bytes status output e f =
    ap (λ b. exit_output b status) e ∙ ap (λ s. exit_output output.bytes s) f

accepts_mode :
    (task : Task) (limits : Limits) (secret : List ℕ) (j : ℕ) (output : Output) (later : Judgement) (mode : Stepped) →
    j ≤ limits.turns → Accept task limits secret output →
    ((real_of task secret j).state.control.mode ≡ Ran → later ≡ Accepts (Cross task secret limits.turns) output) →
    (real_of task secret j).state.control.mode ≡ mode → judged_mode mode (real_of task secret j).state
    (Cross task secret j) later ≡ Accepts (Cross task secret limits.turns) output
accepts_mode task limits secret j output later Ran below accept go m = go m
accepts_mode task limits secret j output later (Exited status) below accept go m =
    let exits : HasExited (real_of task secret j).state output =
    real_status task secret j limits.turns status output below m accept.exits in
    let crosses : Cross task secret limits.turns ≡ Cross task secret j =
    cross_later task.enclosures task.masks (real_start task secret) j limits.turns below
    (over_exited (real_of task secret j).state.control.mode status m) in
    let told : Exited status ≡ Exited output.status = sym m ∙ exits.status in
    let same : status ≡ output.status = cc in
    ap (λ bits. Accepts bits (exit_output (real_of task secret j).state.control.output status)) (sym crosses)
    ∙ ap (λ o. Accepts (Cross task secret limits.turns) o)
    (exit_same (real_of task secret j).state.control.output status output exits.bytes same)
accepts_mode task limits secret j output later (Stopped fault) below accept go m =
    absurd (never_stopped task secret j limits.turns output below accept.exits fault m)

accepts_exposed :
    (task : Task) (limits : Limits) (secret : List ℕ) (j : ℕ) (output : Output) (later : Judgement) (enclosed : Bool) →
    suc j ≤ limits.turns → Accept task limits secret output →
    ((real_of task secret (suc j)).state.control.mode ≡ Ran → later ≡ Accepts (Cross task secret limits.turns) output) →
    enclosed_of task secret j ≡ enclosed → judged_after None enclosed (real_of task secret (suc j)).state
    (Cross task secret (suc j)) later ≡ Accepts (Cross task secret limits.turns) output
accepts_exposed task limits secret j output later true below accept go e =
    go (ran_enclosed task.enclosures (real_start task secret) j e
    (unbroken_before task.enclosures (real_start task secret) (suc j) limits.turns below accept.unbroken)
    (never_stopped task secret (suc j) limits.turns output below accept.exits))
accepts_exposed task limits secret j output later false below accept go e =
    accepts_mode task limits secret (suc j) output later (real_of task secret (suc j)).state.control.mode below accept
    go refl

none_accepted :
    (task : Task) (limits : Limits) (secret : List ℕ) (j : ℕ) (output : Output) → suc j ≤ limits.turns →
    Accept task limits secret output → why_after task limits secret j ≡ None
none_accepted task limits secret j output below accept =
    none_of limits.budget (enclosed_of task secret j) (real_of task secret (suc j)) (Cross task secret (suc j))
    (feed (replay_of task (common_of task secret (suc j))) (Cross task secret (suc j)))
    (fine_accepted task limits secret j output below accept)

accepts_from :
    (left : ℕ) (task : Task) (limits : Limits) (secret : List ℕ) (j : ℕ) (output : Output) → j + left ≡ limits.turns →
    Accept task limits secret output → (real_of task secret j).state.control.mode ≡ Ran →
    judged_from task limits secret left j ≡ Accepts (Cross task secret limits.turns) output
unfolding judged_from
accepts_from zero task limits secret j output s accept ran =
    let last : j ≡ limits.turns = omega (arith, s) in
    let there : (real_of task secret limits.turns).state.control.mode ≡ Ran =
    subst (λ i. (real_of task secret i).state.control.mode ≡ Ran) last ran in
    let never : Ran ≡ Exited output.status = sym there ∙ accept.exits.status in absurd (cc)
accepts_from (suc left) task limits secret j output s accept ran =
    let sum : suc j + left ≡ limits.turns = omega (arith, s) in
    let below : suc j ≤ limits.turns = omega (arith, s) in
    ap (λ why. judged_after why (enclosed_of task secret j) (real_of task secret (suc j)).state
    (Cross task secret (suc j)) (judged_from task limits secret left (suc j)))
    (none_accepted task limits secret j output below accept)
    ∙ accepts_exposed task limits secret j output (judged_from task limits secret left (suc j))
    (enclosed_of task secret j) below accept (λ mode. accepts_from left task limits secret (suc j) output sum accept
    mode) refl

pub accepts_law : AcceptsLaw
accepts_law task limits secret output accept =
    let sum : zero + limits.turns ≡ limits.turns = omega arith in
    let fits : (length secret == task.secret_length) ≡ true =
    (Decides-eqb (length secret) task.secret_length).1 accept.has_length in
    ap (λ test. if test then judged_from task limits secret limits.turns zero else Rejects
    (SecretLength task.secret_length (length secret))) fits
    ∙ accepts_from limits.turns task limits secret zero output sum accept (start_runs task secret)

pub rejected_law : RejectedLaw
rejected_law task limits secret why e output accept =
    let judged : Rejects why ≡ Accepts (Cross task secret limits.turns) output =
    sym e ∙ accepts_law task limits secret output accept in cc
