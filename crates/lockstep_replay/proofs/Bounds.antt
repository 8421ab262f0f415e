-- The laws of acceptance: the replay is done, prefixes, crossing strings, outputs, and greater limits.
use Rattle.std.proofs.Common.{◌≡◌, ℕ, zero, suc, ◌≤◌, inl, inr, List, [], ◌∷◌, length, ap, sym, subst, ◌∙◌, Bool, None}
use Rattle.std.proofs.Common.{false, arith}
use Rattle.std.specs.List.{AllByRecursion}
use Rattle.flow_base.specs.declared.outputs.Output.{Output}
use Rattle.crossing_bits.specs.Askers.{Asker, Over, then_ask, Uses, IsReached}
use Rattle.crossing_bits.specs.Weights.{IsUsed, HaveAtMost, IsPrefixFree}
use Rattle.crossing_bits.proofs.Feeding.{le_or_lt, prefix_law}
use Rattle.crossing_bits.proofs.Outputs.{outputs_few, reached_through, strings_free}
use Rattle.crossing_bits.proofs.Weighing.{kraft}
use Rattle.rv32im_machine.specs.declared.stepping.Stepped.{Stepped}
use Rattle.rv32im_machine.specs.declared.stepping.Stepped.TheVariants.{Ran, Exited, Stopped}
use Rattle.region_machine.specs.Runs.{Place, Real}
use Rattle.replay_machine.specs.Runs.{ReplayPlace}
use Rattle.lockstep_replay.specs.Tasks.{Task, Limits, real_start, real_of, enclosed_of, common_of, Cross}
use Rattle.lockstep_replay.specs.Tasks.{replay_start, replay_of}
use Rattle.lockstep_replay.specs.Acceptance.{HasExited, EndAlike, SameMark, Done, Follows, Accept, IsCross, IsOutput}
use Rattle.lockstep_replay.specs.AcceptanceLaws.{DoneLaw, PrefixesLaw, CrossesLaw, BoundLaw, GreaterLimitsLaw}
use Rattle.region_machine.proofs.Stillness.{IsOver}
use Rattle.lockstep_replay.proofs.Stillness.{real_later, cross_later, replay_later}
use Rattle.lockstep_replay.proofs.RunsGrow.{common_grows, common_most}
use Rattle.lockstep_replay.proofs.ExitsAreExposed.{exposed_exit}

-- ---- the replay of an accepted secret

-- it follows the real run after the last turn
follows_last :
    (task : Task) (turns : ℕ) (secret : List ℕ) (output : Output) → (real_of task secret turns).broken ≡ None →
    HasExited (real_of task secret turns).state output → ((turn : ℕ) → suc turn ≤ turns →
    enclosed_of task secret turn ≡ false → Follows task secret (suc turn)) → Follows task secret turns
unfolding Real
follows_last task zero secret output unbroken exits follows =
    let never : Ran ≡ Exited output.status = exits.status in absurd (cc)
follows_last task (suc turns) secret output unbroken exits follows =
    follows turns (omega arith) (exposed_exit task.enclosures (real_start task secret) turns output.status unbroken
    exits.status)

pub over_exited : (mode : Stepped) (status : ℕ) → mode ≡ Exited status → IsOver mode
over_exited mode status e = subst (λ m. IsOver m) (sym e) tt

-- so a secret is accepted where the replay follows after each common turn, and wherever it follows after the last turn
-- has exited with the output
pub accepted_where :
    (task : Task) (limits : Limits) (secret : List ℕ) (output : Output) → length secret ≡ task.secret_length →
    (real_of task secret limits.turns).broken ≡ None → HasExited (real_of task secret limits.turns).state output →
    length (Cross task secret limits.turns) ≤ limits.budget → ((turn : ℕ) → suc turn ≤ limits.turns →
    enclosed_of task secret turn ≡ false → Follows task secret (suc turn)) →
    ((last : Follows task secret limits.turns) → HasExited last.place.state output) → Accept task limits secret output
accepted_where task limits secret output same unbroken exits within follows exited =
    let last : Follows task secret limits.turns =
    follows_last task limits.turns secret output unbroken exits follows in record {
      has_length = same;
      unbroken = unbroken;
      exits = exits;
      within = within;
      follows = follows;
      last = last;
      replay_exits = exited last;
    }

pub done_law : DoneLaw
done_law task limits secret output accept =
    let last : Follows task secret limits.turns = accept.last in
    let exited : HasExited last.place.state output = accept.replay_exits in record {
      place = last.place;
      uses =
          replay_later task.enclosures task.masks (replay_start task) (common_of task secret limits.turns) limits.turns
          (Cross task secret limits.turns) last.place [] (common_most task.enclosures limits.turns
          (real_start task secret)) last.inside (over_exited last.place.state.control.mode output.status exited.status)
          last.uses;
      inside = last.inside;
      exited = exited;
    }

pub prefixes_law : PrefixesLaw
prefixes_law task turns first second output other p q h =
    prefix_law ReplayPlace (replay_of task turns) first second p.place q.place p.uses q.uses h

-- ---- crossing strings

used_of :
    (task : Task) (limits : Limits) (bits : List Bool) → IsCross task limits bits →
    IsUsed (replay_of task limits.turns) bits
used_of task limits bits (secret, (output, accept, e)) =
    let done : Done task limits.turns (Cross task secret limits.turns) output =
    done_law task limits secret output accept in
    (done.place, subst (λ s. Uses (replay_of task limits.turns) s done.place) e done.uses)

short_of : (task : Task) (limits : Limits) (bits : List Bool) → IsCross task limits bits → length bits ≤ limits.budget
short_of task limits bits (secret, (output, accept, e)) = subst (λ s. length s ≤ limits.budget) e accept.within

all_used :
    (task : Task) (limits : Limits) (strings : List (List Bool)) → AllByRecursion (IsCross task limits) strings →
    AllByRecursion (IsUsed (replay_of task limits.turns)) strings
all_used task limits [] h = tt
all_used task limits (bits ∷ strings) (h, hs) = (used_of task limits bits h, all_used task limits strings hs)

all_short :
    (task : Task) (limits : Limits) (strings : List (List Bool)) → AllByRecursion (IsCross task limits) strings →
    HaveAtMost limits.budget strings
all_short task limits [] h = tt
all_short task limits (bits ∷ strings) (h, hs) = (short_of task limits bits h, all_short task limits strings hs)

pub crosses_law : CrossesLaw
crosses_law task limits strings h different =
    let free : IsPrefixFree strings =
    strings_free ReplayPlace (replay_of task limits.turns) strings different (all_used task limits strings h) in
    (free, kraft limits.budget strings (all_short task limits strings h) free)

-- ---- outputs

abbrev pub status_of : Stepped → ℕ
status_of Ran = 0
status_of (Exited status) = status
status_of (Stopped fault) = 0

-- the output that is read off the end of a run
abbrev pub output_at : List ℕ → Stepped → Output
output_at bytes mode = record { bytes = bytes; status = status_of mode }

abbrev pub output_of : ReplayPlace → Output
output_of place = output_at place.state.control.output place.state.control.mode

exited_output : (place : ReplayPlace) (output : Output) → HasExited place.state output → output_of place ≡ output
exited_output place output h =
    ap (λ bytes. output_at bytes place.state.control.mode) h.bytes ∙ ap (λ mode. output_at output.bytes mode) h.status

abbrev pub output_asker : Task → ℕ → Asker Output
output_asker task turns = then_ask (replay_of task turns) (λ place. Over (output_of place))

reached_of :
    (task : Task) (limits : Limits) (output : Output) → IsOutput task limits output →
    IsReached (output_asker task limits.turns) limits.budget output
reached_of task limits output (secret, accept) =
    let done : Done task limits.turns (Cross task secret limits.turns) output =
    done_law task limits secret output accept in
    subst (λ o. IsReached (output_asker task limits.turns) limits.budget o)
    (exited_output done.place output done.exited) (reached_through (replay_of task limits.turns) output_of limits.budget
    (Cross task secret limits.turns) done.place accept.within done.uses)

all_reached :
    (task : Task) (limits : Limits) (outputs : List Output) → AllByRecursion (IsOutput task limits) outputs →
    AllByRecursion (IsReached (output_asker task limits.turns) limits.budget) outputs
all_reached task limits [] h = tt
all_reached task limits (output ∷ outputs) (h, hs) = (
  reached_of task limits output h,
  all_reached task limits outputs
      hs,
)

pub bound_law : BoundLaw
bound_law task limits outputs h different =
    outputs_few Output (output_asker task limits.turns) limits.budget outputs different
    (all_reached task limits outputs h)

-- ---- greater limits

pub over_alike : (real copy : Stepped) → EndAlike real copy → IsOver real → IsOver copy
over_alike Ran copy h over = absurd over
over_alike (Exited status) Ran h over = absurd h
over_alike (Exited status) (Exited other) h over = tt
over_alike (Exited status) (Stopped fault) h over = absurd h
over_alike (Stopped fault) copy h over = absurd h

-- where the real run is over the replay follows it in every later turn
pub follows_later :
    (task : Task) (secret : List ℕ) (turns more : ℕ) → turns ≤ more →
    IsOver (real_of task secret turns).state.control.mode → Follows task secret turns → Follows task secret more
follows_later task secret turns more h over follows = record {
  place = follows.place;
  uses =
      replay_later task.enclosures task.masks (replay_start task) (common_of task secret turns)
      (common_of task secret more) (Cross task secret more) follows.place []
      (common_grows task.enclosures (real_start task secret) turns more h) follows.inside
      (over_alike (real_of task secret turns).state.control.mode follows.place.state.control.mode follows.mark.ended
      over) (subst (λ s. Uses (replay_of task (common_of task secret turns)) s follows.place)
      (sym (cross_later task.enclosures task.masks (real_start task secret) turns more h over)) follows.uses);
  inside = follows.inside;
  mark =
      subst (λ (p : Place). SameMark p.state follows.place.state)
      (sym (real_later task.enclosures (real_start task secret) turns more h over)) follows.mark;
}

same_place :
    (asker : Asker ReplayPlace) (bits : List Bool) (first second : ReplayPlace) → Uses asker bits first →
    Uses asker bits second → first ≡ second
same_place asker bits first second u v = cc

-- a replay follows in one place alone
pub same_follows :
    (task : Task) (secret : List ℕ) (turns : ℕ) (first second : Follows task secret turns) → first.place ≡ second.place
same_follows task secret turns first second =
    same_place (replay_of task (common_of task secret turns)) (Cross task secret turns) first.place second.place
    first.uses second.uses

-- and where the real run is over in that place still
pub later_follows :
    (task : Task) (secret : List ℕ) (turns more : ℕ) → turns ≤ more →
    IsOver (real_of task secret turns).state.control.mode → (first : Follows task secret turns) →
    (later : Follows task secret more) → first.place ≡ later.place
unfolding follows_later
later_follows task secret turns more h over first later =
    same_follows task secret more (follows_later task secret turns more h over first) later

pub greater_limits_law : GreaterLimitsLaw
unfolding follows_later
greater_limits_law task limits greater secret output bits h accept =
    let over : IsOver (real_of task secret limits.turns).state.control.mode =
    over_exited (real_of task secret limits.turns).state.control.mode output.status accept.exits.status in
    let real : real_of task secret limits.turns ≡ real_of task secret greater.turns =
    sym (real_later task.enclosures (real_start task secret) limits.turns greater.turns h over) in
    let crosses : Cross task secret limits.turns ≡ Cross task secret greater.turns =
    sym (cross_later task.enclosures task.masks (real_start task secret) limits.turns greater.turns h over) in
    record {
      has_length = accept.has_length;
      unbroken = subst (λ (p : Place). p.broken ≡ None) real accept.unbroken;
      exits = subst (λ (p : Place). HasExited p.state output) real accept.exits;
      within = omega (arith, bits, accept.within, ap length crosses);
      follows = λ j below exposed. elim (le_or_lt (suc j) limits.turns) [
        | inl early ↦ accept.follows j (omega (arith, early)) exposed
        | inr late ↦
            let after : limits.turns ≤ suc j = omega (arith, late) in
            follows_later task secret limits.turns (suc j) after over accept.last
      ];
      last = follows_later task secret limits.turns greater.turns h over accept.last;
      replay_exits = accept.replay_exits;
    }
