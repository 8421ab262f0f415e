-- One round of the lockstep, as a turn of the two whole runs.
use Rattle.std.proofs.Common.{◌≡◌, ℕ, zero, suc, ◌+◌, List, [], ◌++◌, length, length-append, Bool, true, false, refl}
use Rattle.std.proofs.Common.{sym, subst, ◌∙◌, ap, Option, Some, None}
use Rattle.flow_base.specs.declared.points.Point.{Point}
use Rattle.crossing_bits.specs.Askers.{Fed}
use Rattle.rv32im_machine.specs.declared.stepping.Stepped.{Stepped}
use Rattle.rv32im_machine.specs.declared.stepping.Stepped.TheVariants.{Ran, Exited, Stopped}
use Rattle.rv32im_machine.specs.State.{State}
use Rattle.rv32im_machine.specs.Folds.{real_end}
use Rattle.enclosure_regions.specs.declared.break_kinds.Break.{Break}
use Rattle.region_machine.specs.Enclosures.{Enclosures, is_enclosed}
use Rattle.region_machine.specs.Guests.{guest_walk}
use Rattle.region_machine.specs.Breaking.{Breaks}
use Rattle.region_machine.specs.Runs.{Place, visited, unbroken_turn}
use Rattle.replay_machine.specs.Runs.{ReplayPlace, Masks}
use Rattle.region_machine.specs.Runs.{turn_unless, Real, common_turns}
use Rattle.replay_machine.specs.Runs.{Replay}
use Rattle.replay_machine.specs.Standing.{Standing, Stands}
use Rattle.replay_machine.specs.Visits.{IsAhead}
use Rattle.lockstep_replay.specs.declared.tallies.Tallying.{Tallying}
use Rattle.lockstep_replay.specs.declared.rounds.Round.{Round}
use Rattle.lockstep_replay.specs.declared.two_runs.TwoRuns.{TwoRuns}
use Rattle.lockstep_replay.specs.declared.verdicts.Why.{Why}
use Rattle.lockstep_replay.specs.declared.verdicts.Why.TheVariants.{TurnLimit}
use Rattle.lockstep_replay.specs.Crossing.{cross_after, crossing_of, crossing_unbroken}
use Rattle.lockstep_replay.specs.Tasks.{Task, Limits, real_start, real_of, enclosed_of, Cross, replay_start}
use Rattle.lockstep_replay.specs.Beginnings.{Begins}
use Rattle.lockstep_replay.specs.Private.Turning.{Rounds, Joined, crossed, fed_turn, why_turned}
use Rattle.lockstep_replay.specs.Verdicts.{Judgement, Accepts, Rejects, why_after, why_of, why_broken, why_mode}
use Rattle.lockstep_replay.specs.Verdicts.{why_common, why_replay, fed_of}
use Rattle.lockstep_replay.specs.Verdicts.{judged_from, judged_after, judged_mode}
use Rattle.lockstep_replay.proofs.Conditions.{none_broken}
use Rattle.lockstep_replay.proofs.RunsGrow.{real_next, cross_next, IsAt, fed_next, at_enclosed}

-- where the two runs of a task stand after so many turns of the real one
pub record StandsAt (task : Task) (limits : Limits) (secret : List ℕ) (turns : ℕ) (real : State) (tally : Tallying)
    (standing : Standing) : Type 0 where
  pub real_is : (real_of task secret turns).state ≡ real
  pub unbroken : (real_of task secret turns).broken ≡ None
  pub enclosures : standing.enclosures ≡ task.enclosures
  pub ahead : IsAhead tally.masks task.masks (real_of task secret turns).past
  pub bits_are : tally.bits.bits ≡ Cross task secret turns
  pub place : ReplayPlace
  pub uses : IsAt task.enclosures task.masks (real_start task secret) (replay_start task) turns place
  pub stands : Stands standing task.masks place
  pub budget : tally.budget ≡ limits.budget

pub stands_start : (task : Task) (limits : Limits) (secret : List ℕ) (runs : TwoRuns) → Begins runs task limits secret →
    runs.tally.bits.bits ≡ [] →
    StandsAt task limits secret zero runs.real runs.tally runs.replay
unfolding Real common_turns cross_after Replay
stands_start task limits secret runs begins empty = record {
  real_is = begins.real;
  unbroken = refl;
  enclosures = begins.enclosures;
  ahead = begins.ahead;
  bits_are = empty;
  place = replay_start task;
  uses = refl;
  stands = begins.stands;
  budget = begins.budget;
}

-- ---- the real run's turn

next_unbroken : (task : Task) (secret : List ℕ) (turns : ℕ) → (real_of task secret turns).broken ≡ None →
    real_of task secret (suc turns) ≡ unbroken_turn task.enclosures (real_of task secret turns)
next_unbroken task secret turns e =
    real_next task.enclosures turns (real_start task secret)
    ∙ ap (λ b. turn_unless b task.enclosures (real_of task secret turns)) e

reached_is : (task : Task) (secret : List ℕ) (turns : ℕ) (real reached : State) →
    (real_of task secret turns).broken ≡ None →
    (real_of task secret turns).state ≡ real → reached ≡ real_end (guest_walk task.enclosures.regions real) →
    (real_of task secret (suc turns)).state ≡ reached
reached_is task secret turns real reached e is state =
    ap (λ (p : Place). p.state) (next_unbroken task secret turns e)
    ∙ (ap (λ (s : State). real_end (guest_walk task.enclosures.regions s)) is ∙ sym state)

breaks_is : (task : Task) (secret : List ℕ) (turns : ℕ) (real : State) → (real_of task secret turns).broken ≡ None →
    (real_of task secret turns).state ≡ real → (real_of task secret (suc turns)).broken ≡ Breaks task.enclosures.regions
    real
breaks_is task secret turns real e is =
    ap (λ (p : Place). p.broken) (next_unbroken task secret turns e)
    ∙ ap (λ (s : State). Breaks task.enclosures.regions s) is

past_is : (task : Task) (secret : List ℕ) (turns : ℕ) (real : State) → (real_of task secret turns).broken ≡ None →
    (real_of task secret turns).state ≡ real → visited (is_enclosed task.enclosures real.control)
    (real_of task secret turns).past (guest_walk task.enclosures.regions real) ≡ (real_of task secret (suc turns)).past
past_is task secret turns real e is =
    sym (ap (λ (p : Place). p.past) (next_unbroken task secret turns e)
    ∙ ap (λ (s : State). visited (is_enclosed task.enclosures s.control) (real_of task secret turns).past
    (guest_walk task.enclosures.regions s)) is)

crosses_is : (task : Task) (secret : List ℕ) (turns : ℕ) (real : State) → (real_of task secret turns).broken ≡ None →
    (real_of task secret turns).state ≡ real → crossing_of task.enclosures task.masks
    (real_of task secret turns) ≡ crossed task.enclosures task.masks (real_of task secret turns).past real
crosses_is task secret turns real e is =
    ap (λ b. crossing_unbroken b task.enclosures task.masks (real_of task secret turns)) e
    ∙ ap (λ (s : State). crossed task.enclosures task.masks (real_of task secret turns).past s) is

-- ---- what fails

common_why : (enclosed : Bool) (first second : Option Why) → (enclosed ≡ false → first ≡ second) →
    why_common enclosed first ≡ why_common enclosed second
common_why true first second h = refl
common_why false first second h = h refl

plain_why : (budget needed : ℕ) (enclosed other : Bool) (real : Place) (broken : Option Break) (reached : State)
    (cross bits : List Bool) (f g : Fed ReplayPlace) → enclosed ≡ other → real.broken ≡ broken → real.state ≡ reached →
    length cross ≡ needed + length bits → (other ≡ false → f ≡ g) →
    why_of budget enclosed real cross f ≡ why_turned budget other broken needed reached bits g
plain_why budget needed enclosed other real broken reached cross bits f g e b s l h =
    ap (λ t. why_of budget t real cross f) e
    ∙ (ap (λ t. why_broken t (why_mode real.state.control.mode budget (length cross)
    (why_common other (why_replay real.state (length cross) f)))) b
    ∙ (ap (λ t. why_broken broken (why_mode t.control.mode budget (length cross)
    (why_common other (why_replay t (length cross) f)))) s
    ∙ (ap (λ n. why_broken broken (why_mode reached.control.mode budget n (why_common other (why_replay reached n f))))
    l
    ∙ ap (λ w. why_broken broken (why_mode reached.control.mode budget (needed + length bits) w))
    (common_why other (why_replay reached (needed + length bits) f) (why_replay reached (needed + length bits) g)
    (λ exposed. ap (λ k. why_replay reached (needed + length bits) k) (h exposed))))))

-- the replay of the bits so far, where the turn is a common turn
fed_is : (task : Task) (secret : List ℕ) (turns : ℕ) (real : State) (place : ReplayPlace) →
    (real_of task secret turns).broken ≡ None →
    (real_of task secret turns).state ≡ real → IsAt task.enclosures task.masks (real_start task secret)
    (replay_start task) turns place → is_enclosed task.enclosures real.control ≡ false →
    fed_of task secret (suc turns) ≡ fed_turn task.enclosures task.masks place
    (crossed task.enclosures task.masks (real_of task secret turns).past real)
fed_is task secret turns real place e is at exposed =
    fed_next task.enclosures task.masks turns (real_start task secret) (replay_start task) place
    (ap (λ (s : State). is_enclosed task.enclosures s.control) is ∙ exposed) at
    ∙ ap (λ bits. fed_turn task.enclosures task.masks place bits) (crosses_is task secret turns real e is)

-- the next condition of a task is what a round says
pub round_why : (task : Task) (limits : Limits) (secret : List ℕ) (turns : ℕ) (real : State) (tally : Tallying)
    (standing : Standing) (reached : State)
    (after : Tallying) (next : Standing) (round : Round) → StandsAt task limits secret turns real tally standing →
    length tally.bits.bits ≡ tally.needed → Rounds task.enclosures real tally standing reached after next round →
    why_after task limits secret turns ≡ round.why
round_why task limits secret turns real tally standing reached after next round s count r =
    let past : List Point = (real_of task secret turns).past in
    let bits : List Bool = crossed task.enclosures task.masks past real in
    let grown : length (Cross task secret (suc turns)) ≡ tally.needed + length bits =
    ap length (cross_next task.enclosures task.masks turns (real_start task secret))
    ∙ (length-append (Cross task secret turns) (crossing_of task.enclosures task.masks (real_of task secret turns))
    ∙ (ap (λ n. n + length (crossing_of task.enclosures task.masks (real_of task secret turns)))
    (ap length (sym s.bits_are) ∙ count)
    ∙ ap (λ b. tally.needed + length b) (crosses_is task secret turns real s.unbroken s.real_is))) in
    plain_why limits.budget tally.needed (enclosed_of task secret turns) (is_enclosed task.enclosures real.control)
    (real_of task secret (suc turns)) (Breaks task.enclosures.regions real) reached (Cross task secret (suc turns)) bits
    (fed_of task secret (suc turns)) (fed_turn task.enclosures task.masks s.place bits)
    (ap (λ (t : State). is_enclosed task.enclosures t.control) s.real_is)
    (breaks_is task secret turns real s.unbroken s.real_is)
    (reached_is task secret turns real reached s.unbroken s.real_is r.state) grown
    (fed_is task secret turns real s.place s.unbroken s.real_is s.uses)
    ∙ (ap (λ budget. why_turned budget (is_enclosed task.enclosures real.control) (Breaks task.enclosures.regions real)
    tally.needed reached bits (fed_turn task.enclosures task.masks s.place bits)) (sym s.budget)
    ∙ sym (r.why task.masks past s.place s.ahead s.stands))

-- ---- where the runs stand after a round in which nothing fails

record StandsThere (task : Task) (secret : List ℕ) (turns : ℕ) (standing : Standing) : Type 0 where
  pub place : ReplayPlace
  pub uses : IsAt task.enclosures task.masks (real_start task secret) (replay_start task) turns place
  pub stands : Stands standing task.masks place

stands_there : (enclosed : Bool) (task : Task) (secret : List ℕ) (turns : ℕ) (real : State) (next : Standing)
    (place : ReplayPlace) →
    is_enclosed task.enclosures real.control ≡ enclosed → (real_of task secret turns).broken ≡ None →
    (real_of task secret turns).state ≡ real → IsAt task.enclosures task.masks (real_start task secret)
    (replay_start task) turns place → Joined enclosed next task.masks place
    (fed_turn task.enclosures task.masks place (crossed task.enclosures task.masks (real_of task secret turns).past
    real)) → StandsThere task secret (suc turns) next
stands_there true task secret turns real next place e broken is at joined = record {
  place = place;
  uses =
      at_enclosed task.enclosures task.masks (real_start task secret) (replay_start task) turns place
      (ap (λ (s : State). is_enclosed task.enclosures s.control) is ∙ e) at;
  stands = joined;
}
stands_there false task secret turns real next place e broken is at joined = record {
  place = joined.place;
  uses = fed_is task secret turns real place broken is at e ∙ joined.uses;
  stands = joined.stands;
}

pub round_stands : (task : Task) (limits : Limits) (secret : List ℕ) (turns : ℕ) (real : State) (tally : Tallying)
    (standing : Standing) (reached : State)
    (after : Tallying) (next : Standing) (round : Round) → StandsAt task limits secret turns real tally standing →
    Rounds task.enclosures real tally standing reached after next round → round.why ≡ None →
    StandsAt task limits secret (suc turns) reached after next
round_stands task limits secret turns real tally standing reached after next round s r none =
    let masks : Masks = task.masks in
    let past : List Point = (real_of task secret turns).past in
    let there : StandsThere task secret (suc turns) next =
    stands_there (is_enclosed task.enclosures real.control) task secret turns real next s.place refl s.unbroken
    s.real_is s.uses (r.joins masks past s.place s.ahead s.stands none) in
    let unbroken : Breaks task.enclosures.regions real ≡ None =
    (none_broken (Breaks task.enclosures.regions real) _ (sym (r.why masks past s.place s.ahead s.stands) ∙ none)).0 in
    record {
      real_is = reached_is task secret turns real reached s.unbroken s.real_is r.state;
      unbroken = breaks_is task secret turns real s.unbroken s.real_is ∙ unbroken;
      enclosures = r.regions_stay ∙ s.enclosures;
      ahead =
          subst (λ points. IsAhead after.masks masks points) (past_is task secret turns real s.unbroken s.real_is)
          (r.ahead masks past s.ahead);
      bits_are =
          r.bits masks past s.ahead none
          ∙ (ap (λ b. b ++ crossed task.enclosures masks past real) s.bits_are
          ∙ (ap (λ b. Cross task secret turns ++ b) (sym (crosses_is task secret turns real s.unbroken s.real_is))
          ∙ sym (cross_next task.enclosures masks turns (real_start task secret))));
      place = there.place;
      uses = there.uses;
      stands = there.stands;
      budget = r.budget ∙ s.budget;
    }

-- the turn is enclosed where the round says so
pub round_enclosed_is : (task : Task) (limits : Limits) (secret : List ℕ) (turns : ℕ) (real : State) (tally : Tallying)
    (standing : Standing)
    (reached : State) (after : Tallying) (next : Standing) (round : Round) →
    StandsAt task limits secret turns real tally standing →
    Rounds task.enclosures real tally standing reached after next round → enclosed_of task secret turns ≡ round.enclosed
round_enclosed_is task limits secret turns real tally standing reached after next round s r =
    ap (λ (t : State). is_enclosed task.enclosures t.control) s.real_is ∙ sym r.enclosed

-- ---- the judgement, round by round

-- a condition fails
pub judged_rejects : (task : Task) (limits : Limits) (secret : List ℕ) (left turns : ℕ) (why : Why) →
    why_after task limits secret turns ≡ Some why →
    judged_from task limits secret (suc left) turns ≡ Rejects why
unfolding judged_from
judged_rejects task limits secret left turns why e =
    ap (λ w. judged_after w (enclosed_of task secret turns) (real_of task secret (suc turns)).state
    (Cross task secret (suc turns)) (judged_from task limits secret left (suc turns))) e

-- none fails, and the run has exited
pub judged_accepts : (task : Task) (limits : Limits) (secret : List ℕ) (left turns : ℕ) (real : State)
    (tally : Tallying) (standing : Standing)
    (status : ℕ) → why_after task limits secret turns ≡ None → enclosed_of task secret turns ≡ false →
    StandsAt task limits secret (suc turns) real tally standing → real.control.mode ≡ Exited status →
    judged_from task limits secret (suc left) turns ≡ Accepts tally.bits.bits
    (record { bytes = real.control.output; status = status })
unfolding judged_from
judged_accepts task limits secret left turns real tally standing status e exposed s mode =
    ap (λ w. judged_after w (enclosed_of task secret turns) (real_of task secret (suc turns)).state
    (Cross task secret (suc turns)) (judged_from task limits secret left (suc turns))) e
    ∙ (ap (λ b. judged_after None b (real_of task secret (suc turns)).state (Cross task secret (suc turns))
    (judged_from task limits secret left (suc turns))) exposed
    ∙ (ap (λ state. judged_mode state.control.mode state (Cross task secret (suc turns))
    (judged_from task limits secret left (suc turns))) s.real_is
    ∙ (ap (λ b. judged_mode real.control.mode real b (judged_from task limits secret left (suc turns))) (sym s.bits_are)
    ∙ ap (λ m. judged_mode m real tally.bits.bits (judged_from task limits secret left (suc turns))) mode)))

-- none fails, and the run goes on
goes_mode : (mode : Stepped) (reached : State) (bits : List Bool) (later : Judgement) →
    ((status : ℕ) → mode ≡ Exited status → ⊥) → judged_mode mode reached bits later ≡ later
goes_mode Ran reached bits later h = refl
goes_mode (Exited status) reached bits later h = absurd (h status refl)
goes_mode (Stopped fault) reached bits later h = refl

goes_after : (enclosed : Bool) (reached : State) (bits : List Bool) (later : Judgement) →
    (enclosed ≡ false → (status : ℕ) → reached.control.mode ≡ Exited status → ⊥) →
    judged_after None enclosed reached bits later ≡ later
goes_after true reached bits later h = refl
goes_after false reached bits later h = goes_mode reached.control.mode reached bits later (h refl)

pub judged_goes : (task : Task) (limits : Limits) (secret : List ℕ) (left turns : ℕ) (real : State) (tally : Tallying)
    (standing : Standing) →
    why_after task limits secret turns ≡ None → StandsAt task limits secret (suc turns) real tally standing →
    (enclosed_of task secret turns ≡ false → (status : ℕ) → real.control.mode ≡ Exited status → ⊥) →
    judged_from task limits secret (suc left) turns ≡ judged_from task limits secret left (suc turns)
unfolding judged_from
judged_goes task limits secret left turns real tally standing e s running =
    ap (λ w. judged_after w (enclosed_of task secret turns) (real_of task secret (suc turns)).state
    (Cross task secret (suc turns)) (judged_from task limits secret left (suc turns))) e
    ∙ (ap (λ state. judged_after None (enclosed_of task secret turns) state (Cross task secret (suc turns))
    (judged_from task limits secret left (suc turns))) s.real_is
    ∙ goes_after (enclosed_of task secret turns) real (Cross task secret (suc turns))
    (judged_from task limits secret left (suc turns)) running)

-- the limit of turns
pub judged_limit : (task : Task) (limits : Limits) (secret : List ℕ) (left turns : ℕ) → left ≡ 0 →
    judged_from task limits secret left turns ≡ Rejects (TurnLimit limits.turns)
unfolding judged_from
judged_limit task limits secret left turns e = rw e refl

pub none_of : {A : Type 0} (option : Option A) → ((x : A) → option ≡ Some x → ⊥) → option ≡ None
none_of None h = refl
none_of (Some x) h = absurd (h x refl)

-- ---- whole rounds

in_task : (task : Task) (limits : Limits) (secret : List ℕ) (turns : ℕ) (real : State) (tally : Tallying)
    (standing : Standing) (reached : State)
    (after : Tallying) (next : Standing) (round : Round) → StandsAt task limits secret turns real tally standing →
    Rounds standing.enclosures real tally standing reached after next round →
    Rounds task.enclosures real tally standing reached after next round
in_task task limits secret turns real tally standing reached after next round s r =
    subst (λ (e : Enclosures). Rounds e real tally standing reached after next round) s.enclosures r

pub step_stands : (task : Task) (limits : Limits) (secret : List ℕ) (turns : ℕ) (real : State) (tally : Tallying)
    (standing : Standing) (reached : State)
    (after : Tallying) (next : Standing) (round : Round) → StandsAt task limits secret turns real tally standing →
    Rounds standing.enclosures real tally standing reached after next round → round.why ≡ None →
    StandsAt task limits secret (suc turns) reached after next
step_stands task limits secret turns real tally standing reached after next round s r none =
    round_stands task limits secret turns real tally standing reached after next round s
    (in_task task limits secret turns real tally standing reached after next round s r) none

pub step_rejects : (task : Task) (limits : Limits) (secret : List ℕ) (left turns : ℕ) (real : State) (tally : Tallying)
    (standing : Standing)
    (reached : State) (after : Tallying) (next : Standing) (round : Round) (why : Why) →
    StandsAt task limits secret turns real tally standing → length tally.bits.bits ≡ tally.needed →
    Rounds standing.enclosures real tally standing reached after next round → round.why ≡ Some why →
    judged_from task limits secret (suc left) turns ≡ Rejects why
step_rejects task limits secret left turns real tally standing reached after next round why s count r is =
    judged_rejects task limits secret left turns why (round_why task limits secret turns real tally standing reached
    after next round s count (in_task task limits secret turns real tally standing reached after next round s r) ∙ is)

pub step_accepts : (task : Task) (limits : Limits) (secret : List ℕ) (left turns : ℕ) (real : State) (tally : Tallying)
    (standing : Standing)
    (reached : State) (after : Tallying) (next : Standing) (round : Round) (status : ℕ) →
    StandsAt task limits secret turns real tally standing → length tally.bits.bits ≡ tally.needed →
    Rounds standing.enclosures real tally standing reached after next round → round.why ≡ None →
    round.enclosed ≡ false → reached.control.mode ≡ Exited status →
    judged_from task limits secret (suc left) turns ≡ Accepts after.bits.bits
    (record { bytes = reached.control.output; status = status })
step_accepts task limits secret left turns real tally standing reached after next round status s count r none exposed
    mode =
    judged_accepts task limits secret left turns reached after next status
    (round_why task limits secret turns real tally standing reached after next round s count
    (in_task task limits secret turns real tally standing reached after next round s r) ∙ none)
    (round_enclosed_is task limits secret turns real tally standing reached after next round s
    (in_task task limits secret turns real tally standing reached after next round s r) ∙ exposed)
    (step_stands task limits secret turns real tally standing reached after next round s r none) mode

pub step_goes : (task : Task) (limits : Limits) (secret : List ℕ) (left turns : ℕ) (real : State) (tally : Tallying)
    (standing : Standing)
    (reached : State) (after : Tallying) (next : Standing) (round : Round) →
    StandsAt task limits secret turns real tally standing → length tally.bits.bits ≡ tally.needed →
    Rounds standing.enclosures real tally standing reached after next round → round.why ≡ None →
    (round.enclosed ≡ false → (status : ℕ) → reached.control.mode ≡ Exited status → ⊥) →
    judged_from task limits secret (suc left) turns ≡ judged_from task limits secret left (suc turns)
step_goes task limits secret left turns real tally standing reached after next round s count r none running =
    judged_goes task limits secret left turns reached after next
    (round_why task limits secret turns real tally standing reached after next round s count
    (in_task task limits secret turns real tally standing reached after next round s r) ∙ none)
    (step_stands task limits secret turns real tally standing reached after next round s r none)
    (λ exposed. running (sym (round_enclosed_is task limits secret turns real tally standing reached after next round s
    (in_task task limits secret turns real tally standing reached after next round s r)) ∙ exposed))
