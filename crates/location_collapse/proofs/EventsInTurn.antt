-- Events that a collapse takes one after the other, and where it ends at one of them.
use Rattle.std.proofs.Common.{◌≡◌, ◌⊎◌, ◌||◌, ◌++◌, ◌∷◌, [], Bool, true, false, List, refl, sym, ap, ◌∙◌, subst}
use Rattle.std.proofs.Common.{Result, Ok, Err, ⊎_elim, inl, inr, append_assoc}
use Rattle.std.specs.Result.{IsErrAnd}
use Rattle.std.specs.Map.{keys_of}
use Rattle.flow_graph.specs.declared.events.Event.{Event}
use Rattle.location_collapse.specs.declared.collapses.Collapse.{Collapse}
use Rattle.location_collapse.specs.declared.faults.CollapseFault.{CollapseFault}
use Rattle.location_collapse.specs.declared.faults.CollapseFault.TheVariants.{Limit}
use Rattle.location_collapse.specs.Collapses.{StandsFor, is_limit}
use Rattle.location_collapse.specs.Limits.{ExceedsLimit}
use Rattle.location_collapse.proofs.CollapseLimits.{not_exceeding}
use Rattle.location_collapse.proofs.ExceedingEvents.{more_exceed}

-- it stands for these events more
abbrev pub Gains : Collapse → Collapse → List Event → Type 0
Gains old new more = (events : List Event) → StandsFor old events → StandsFor new (events ++ more)

-- an event was not taken before, or these exceed a limit
abbrev pub Refuses : Collapse → List Event → Type 0
Refuses old more =
    old.is_full ≡ true ⊎ ((events : List Event) → StandsFor old events → ExceedsLimit (events ++ more))

-- these exceed no limit
abbrev pub Allows : Collapse → List Event → Type 0
Allows old more = (events : List Event) → StandsFor old events → ExceedsLimit (events ++ more) → ⊥

-- these are taken
pub record Takes (old new : Collapse) (more : List Event) : Type 0 where
  pub gains : Gains old new more
  pub full : new.is_full ≡ old.is_full

-- what it stands for exceeds no limit
pub allows_of : (old new : Collapse) (more : List Event) → Gains old new more → Allows old more
allows_of old new more gains events stands =
    not_exceeding new.points.capacities.map.entries (keys_of new.links.named.map.entries) (events ++ more) (gains events stands)
    new.points.small new.points.few new.links.few

or_false : (b : Bool) → (b || false) ≡ b
or_false true = refl
or_false false = refl

pub takes_one : (old new : Collapse) (e : Event) (answer : Result (Unit {0}) CollapseFault) (done : Unit {0}) → answer ≡
    Ok done → Gains old new (e ∷ []) → new.is_full ≡ (old.is_full || is_limit answer) → Takes old new (e ∷ [])
takes_one old new e answer done ok gains full = record {
  gains = gains;
  full = full ∙ (ap (λ r. old.is_full || is_limit r) ok ∙ or_false old.is_full);
}

pub gains_behind : (old mid new : Collapse) (first more : List Event) → Takes old mid first → Gains mid new more →
    Gains old new (first ++ more)
gains_behind old mid new first more takes gains events stands =
    subst (StandsFor new) (append_assoc events first more) (gains (events ++ first) (takes.gains events stands))

pub takes_behind : (old mid new : Collapse) (first more : List Event) → Takes old mid first → Takes mid new more →
    Takes old new (first ++ more)
takes_behind old mid new first more takes later = record {
  gains = gains_behind old mid new first more takes later.gains;
  full = later.full ∙ takes.full;
}

pub allows_behind : (old mid : Collapse) (first more : List Event) → Takes old mid first → Allows mid more →
    Allows old (first ++ more)
allows_behind old mid first more takes allows events stands exceeds =
    allows (events ++ first) (takes.gains events stands)
    (subst ExceedsLimit (sym (append_assoc events first more)) exceeds)

pub refuses_behind : (old mid : Collapse) (first more : List Event) → Takes old mid first → Refuses mid more →
    Refuses old (first ++ more)
refuses_behind old mid first more takes refuses =
    ⊎_elim (λ (was : mid.is_full ≡ true). inl (sym takes.full ∙ was))
    (λ (exceeding : (events : List Event) → StandsFor mid events → ExceedsLimit (events ++ more)).
    inr (λ events stands. subst ExceedsLimit (append_assoc events first more)
    (exceeding (events ++ first) (takes.gains events stands)))) refuses

pub refuses_rest : (old : Collapse) (first more : List Event) → Refuses old first → Refuses old (first ++ more)
refuses_rest old first more refuses =
    ⊎_elim (λ (was : old.is_full ≡ true). inl was)
    (λ (exceeding : (events : List Event) → StandsFor old events → ExceedsLimit (events ++ first)).
    inr (λ events stands. subst ExceedsLimit (append_assoc events first more)
    (more_exceed (events ++ first) more (exceeding events stands)))) refuses

-- a limit that is handed on was answered
pub limit_given : (answer given : Result (Unit {0}) CollapseFault) (fault : CollapseFault) → answer ≡ Err fault →
    IsErrAnd given (λ other. other ≡ fault) → given ≡ Err Limit → answer ≡ Err Limit
limit_given answer (Ok done) fault was gives limit = absurd gives
limit_given answer (Err other) fault was gives limit = was ∙ (ap Err (sym gives) ∙ limit)
