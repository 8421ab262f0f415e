-- A recording with the events more that its collapse takes, or passes over.
use Rattle.std.proofs.Common.{◌≡◌, ℕ, Bool, true, false, List, [], ◌∷◌, ◌++◌, ◌||◌, refl, sym, ap, ◌∙◌, ⊎_elim, ◌⊎◌}
use Rattle.std.proofs.Common.{Result, Ok, Err}
use Rattle.std.proofs.lemmas.Bool.{cases_Bool, false≢true}
use Rattle.flow_base.specs.declared.points.Point.{Point}
use Rattle.flow_graph.specs.declared.events.Event.{Event}
use Rattle.flow_graph.specs.declared.events.Event.TheVariants.{Pass}
use Rattle.flow_graph.specs.Events.{again_events}
use Rattle.location_collapse.specs.Collapses.{StandsFor, is_limit}
use Rattle.location_collapse.specs.Laws.{MoreExceed}
use Rattle.location_collapse.specs.Limits.{ExceedsLimit}
use Rattle.location_collapse.specs.declared.collapses.Collapse.{Collapse}
use Rattle.location_collapse.specs.declared.faults.CollapseFault.{CollapseFault}
use Rattle.location_collapse.specs.declared.faults.CollapseFault.TheVariants.{Limit}
use Rattle.measuring.specs.declared.kept_visits.KeptVisits.{KeptVisits}
use Rattle.measuring.specs.Recordings.{Records}
use Rattle.measuring.specs.Visits.{HasVisits}
use Rattle.measuring.proofs.AddedVisits.{visits_again, visits_push}

pub not_full : (old : Bool) (answer : Result (Unit {0}) CollapseFault) (done : Unit {0}) → answer ≡ Ok done →
    (old ≡ true → answer ≡ Err Limit) → old ≡ false
not_full true answer done ok again =
    absurd (let e : answer ≡ Err Limit = again refl in let clash : Ok done ≡ Err Limit = sym ok ∙ e in cc)
not_full false answer done ok again = refl

still_not : (old new : Bool) (answer : Result (Unit {0}) CollapseFault) (done : Unit {0}) → answer ≡ Ok done →
    old ≡ false → new ≡ (old || is_limit answer) → new ≡ false
still_not old new answer done ok not_full full =
    full ∙ (ap (λ b. b || is_limit answer) not_full ∙ ap is_limit ok)

-- events are taken
pub taken : (old new : Collapse) (visits after : KeptVisits) (more : List Event) (answer : Result (Unit {0})
    CollapseFault) (done : Unit {0}) → answer ≡ Ok done → (old.is_full ≡ true → answer ≡ Err Limit) → new.is_full ≡
    (old.is_full || is_limit answer) →
    ((events : List Event) → StandsFor old events → StandsFor new (events ++ more)) →
    ((events : List Event) → HasVisits visits events → HasVisits after (events ++ more)) →
    (events : List Event) → Records (record { collapse = old; visits = visits }) events →
    Records (record { collapse = new; visits = after }) (events ++ more)
taken old new visits after more answer done ok again full stands has events records =
    let empty : old.is_full ≡ false = not_full old.is_full answer done ok again in
    let now : new.is_full ≡ false = still_not old.is_full new.is_full answer done ok empty full in
    record {
      graph = λ same. stands events (records.graph empty);
      visits = λ same. has events (records.visits empty);
      exceeds = λ other. absurd (false≢true (sym now ∙ other));
    }

or_true : (b : Bool) → (b || true) ≡ true
or_true true = refl
or_true false = refl

-- events are passed over
pub passed_over : (old new : Collapse) (visits : KeptVisits) (more : List Event) (answer : Result (Unit {0})
    CollapseFault) → answer ≡ Err Limit → new.is_full ≡ (old.is_full || is_limit answer) → MoreExceed →
    (old.is_full ≡ true ⊎ ((events : List Event) → StandsFor old events → ExceedsLimit (events ++ more))) →
    (events : List Event) → Records (record { collapse = old; visits = visits }) events →
    Records (record { collapse = new; visits = visits }) (events ++ more)
passed_over old new visits more answer err full goes_on limit events records =
    let now : new.is_full ≡ true =
    full ∙ (ap (λ r. old.is_full || is_limit r) err ∙ or_true old.is_full) in
    let over : old.is_full ≡ true → ExceedsLimit (events ++ more) =
    λ was. goes_on events more (records.exceeds was) in
    record {
      graph = λ other. absurd (false≢true (sym other ∙ now));
      visits = λ other. absurd (false≢true (sym other ∙ now));
      exceeds = λ same. ⊎_elim over
          (λ exceeding. ⊎_elim over (λ (empty : old.is_full ≡ false). exceeding events (records.graph empty))
          (cases_Bool old.is_full)) limit;
    }

-- of an output that gives out again what it gave before one visit is kept
pub visited_again : (visits after : KeptVisits) (point : Point) (mask : ℕ) →
    ((events : List Event) → HasVisits visits events → HasVisits after (events ++ Pass point mask ∷ [])) →
    (events : List Event) → HasVisits visits events → HasVisits after (events ++ again_events point mask)
visited_again visits after point mask has events visited q =
    has events visited q ∙ (visits_push q events (Pass point mask) ∙ sym (visits_again q events point mask))
