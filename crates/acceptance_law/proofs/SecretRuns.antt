-- How many bits of its secret a run reads.
use Rattle.std.proofs.Common.{◌≡◌, ℕ, ◌+◌, ◌*◌, ◌≤◌, ◌&&◌, Bool, true, List, [], ◌∷◌, length, refl, ap, ap₂, subst}
use Rattle.std.proofs.Common.{◌∙◌, arith}
use Rattle.std.specs.Prelude.{Option, Some, None}
use Rattle.std.specs.List.{list_all}
use Rattle.std.proofs.lemmas.List.Sums.{sum_by-append}
use Rattle.std.proofs.lemmas.List.Folds.{list_all-append}
use Rattle.enclosure_regions.specs.declared.break_kinds.Break.{Break}
use Rattle.enclosure_regions.specs.declared.region_parts.Region.{Region}
use Rattle.rv32im_machine.specs.State.{State}
use Rattle.rv32im_machine.specs.Language.{none_held}
use Rattle.rv32im_machine.specs.Folds.{real_end}
use Rattle.region_machine.specs.Breaking.{Breaks}
use Rattle.region_machine.specs.Enclosures.{Enters, Kind, Leaves, Steps, kind_of}
use Rattle.region_machine.specs.Guests.{entry, guest_walk, kind_walk, leave}
use Rattle.region_machine.specs.Runs.{Place, real_turn, turn_unless}
use Rattle.region_machine.specs.Starts.{guest}
use Rattle.run_labels.specs.declared.faults.MeasureFault.{MeasureFault}
use Rattle.run_labels.specs.TurnLabels.{TurnLabels, at_start}
use Rattle.run_labels.specs.Traces.{events_in, secret_look}
use Rattle.run_labels.specs.Runs.{IsUnrefused, LabelledRun, broken_fault, enclosing, entered_number, next_run}
use Rattle.run_labels.specs.Runs.{next_walk, run_after, stopped_fault, turn_events, turn_fault, unlabelled}
use Rattle.acceptance_law.specs.SecretBits.{SecretBitsLaw, is_from_secret, secret_bits, secret_bits_of}
use Rattle.acceptance_law.proofs.SecretTurns.{Counted, turn_counted}
use Rattle.acceptance_law.proofs.RowCounts.{Limits}
use Rattle.acceptance_law.proofs.CountedRows.{counts_entry, counts_leave, counts_step}
use Rattle.std.specs.Option.{option_or}

some_none : {A : Type 0} (x : A) → Some x ≡ None → ⊥
some_none x e = subst (λ o. elim o as (λ _. Type 0) [ None ↦ ⊥ | Some y ↦ Unit {0} ]) e tt

-- a turn that does not refuse the run breaks no region
pub unbroken : (broken : Option Break) (look stop : Option MeasureFault) →
    option_or look (option_or (broken_fault broken) stop) ≡ None → broken ≡ None
unbroken None look stop e = refl
unbroken (Some b) None stop e = absurd (some_none _ e)
unbroken (Some b) (Some fault) stop e = absurd (some_none _ e)

pub record RunCounts (secret : List ℕ) (run : LabelledRun) : Type 0 where
  pub bits : secret_bits run.events ≡ 8 * run.place.state.control.secret_at
  pub within : run.place.state.control.secret_at ≤ length secret
  pub sources : list_all is_from_secret run.events ≡ true
  pub long : run.place.state.setting.secret_length ≡ length secret
  pub whole : run.place.broken ≡ None

-- room for all that a turn may write, and for its other passings
abbrev turn_limits : ℕ → State → Limits
turn_limits limit state = record {
  secret = limit;
  output = length state.control.output + state.setting.output_limit;
  others = 5;
}

kind_counted : (limit : ℕ) (kind : Kind) (state : State) (labels : TurnLabels) (answers : List ℕ) →
    state.setting.secret_length ≡ limit → state.control.secret_at ≤ limit →
    Counted limit state.setting state.control.secret_at (events_in labels answers (kind_walk kind state))
    (real_end (kind_walk kind state))
kind_counted limit kind state labels answers e w = pick kind
  where
    pick : (kind : Kind) →
        Counted limit state.setting state.control.secret_at (events_in labels answers (kind_walk kind state))
        (real_end (kind_walk kind state))
    pick (Enters region) =
        turn_counted ⊥ (turn_limits limit state) state.setting state.secret (entry region state.control)
        state.control.secret_at 0 state.store none_held labels answers
        (counts_entry ⊥ (turn_limits limit state) state.control.secret_at 0 region state.control
        (refl, (omega arith, w, omega arith)))
    pick (Leaves region) =
        turn_counted ⊥ (turn_limits limit state) state.setting state.secret
        (leave region state.store.kept state.control) state.control.secret_at 0 state.store none_held labels answers
        (counts_leave ⊥ (turn_limits limit state) state.control.secret_at 0 region state.store.kept state.control
        (λ k. absurd k) (λ k. absurd k) (refl, (omega arith, w, omega arith)))
    pick (Steps region) =
        turn_counted ⊥ (turn_limits limit state) state.setting state.secret _ state.control.secret_at 0 state.store
        none_held labels answers
        (counts_step ⊥ (turn_limits limit state) state.control.secret_at 0 state.control.mode state.setting
        state.control e (omega arith) (refl, (omega arith, w, omega arith)))

pub next_state : (regions : List Region) (place : Place) → place.broken ≡ None →
    (real_turn (enclosing regions) place).state ≡ real_end (guest_walk regions place.state)
next_state regions place e = ap (λ b. (turn_unless b (enclosing regions) place).state) e

pub next_broken : (regions : List Region) (place : Place) → place.broken ≡ None →
    (real_turn (enclosing regions) place).broken ≡ Breaks regions place.state
next_broken regions place e = ap (λ b. (turn_unless b (enclosing regions) place).broken) e

both : (a b : Bool) → a ≡ true → b ≡ true → (a && b) ≡ true
both a b e f = ap₂ (λ x y. x && y) e f

counts_next : (secret : List ℕ) (regions : List Region) (answers : List ℕ) (run : LabelledRun) → RunCounts secret run →
    turn_fault regions answers run ≡ None → RunCounts secret (next_run regions answers run)
counts_next secret regions answers run r fine =
    let c : Counted (length secret) run.place.state.setting run.place.state.control.secret_at
    (turn_events regions answers run) (real_end (next_walk regions run)) =
    kind_counted (length secret) (kind_of regions run.place.state.control) run.place.state (at_start run.labels) answers
    r.long r.within in
    let s : (real_turn (enclosing regions) run.place).state ≡ real_end (next_walk regions run) =
    next_state regions run.place r.whole in
    let taken : (real_turn (enclosing regions) run.place).state.control.secret_at
    ≡ (real_end (next_walk regions run)).control.secret_at = ap (λ (x : State). x.control.secret_at) s in
    record {
      bits = rw (sum_by-append secret_bits_of run.events (turn_events regions answers run))
          (omega (arith, c.bits, r.bits, taken));
      within = omega (arith, c.within, taken);
      sources = list_all-append is_from_secret run.events (turn_events regions answers run)
          ∙ both _ _ r.sources c.sources;
      long = ap (λ (x : State). x.setting.secret_length) s ∙ (ap (λ g. g.secret_length) c.stays ∙ r.long);
      whole = next_broken regions run.place r.whole
          ∙ unbroken (Breaks regions run.place.state)
          (secret_look (entered_number (kind_of regions run.place.state.control)) (at_start run.labels) answers
          (next_walk regions run)) (stopped_fault (real_end (next_walk regions run)).control.mode) fine;
    }

counts_run : (secret : List ℕ) (regions : List Region) (answers : List (List ℕ)) (start : LabelledRun) →
    RunCounts secret start → IsUnrefused regions answers start → RunCounts secret (run_after regions answers start)
unfolding run_after IsUnrefused
counts_run secret regions [] start r u = r
counts_run secret regions (answers ∷ earlier) start r u =
    counts_next secret regions answers (run_after regions earlier start)
    (counts_run secret regions earlier start r u.0) u.1

pub secret_bits_law : SecretBitsLaw
secret_bits_law program public_input secret regions answers u =
    let start : RunCounts secret (unlabelled (guest program public_input secret)) =
    record { bits = refl; within = omega arith; sources = refl; long = refl; whole = refl } in
    let r = counts_run secret regions answers (unlabelled (guest program public_input secret)) start u in
    record { bits = omega (arith, r.bits, r.within); sources = r.sources }
