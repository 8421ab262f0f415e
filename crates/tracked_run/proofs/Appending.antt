-- Receivers of events that take some, and then others.
use Rattle.std.specs.Prelude.{List, [], ◌++◌, Result, Ok, Err, OnOk}
use Rattle.std.proofs.Common.{append_assoc, append-nil, subst, sym}
use Rattle.flow_graph.specs.declared.events.Event.{Event}
use Rattle.tracked_run.specs.Linking.{Appends}

pub appends_none : (stands : List Event → Type 0) → Appends stands stands []
appends_none stands events h = subst stands (sym (append-nil events)) h

pub appends_more : (before mid after : List Event → Type 0) (first second : List Event) → Appends before mid first →
    Appends mid after second → Appends before after (first ++ second)
appends_more before mid after first second h k events e =
    subst after (append_assoc events first second) (k (events ++ first) (h events e))

-- the others where they are taken
pub appends_then : {X : Type 0} (before mid after : List Event → Type 0) (first second : List Event)
    (r : Result (Unit {0}) X) → Appends before mid first → OnOk r (Appends mid after second) →
    OnOk r (Appends before after (first ++ second))
appends_then before mid after first second (Ok done) h k = appends_more before mid after first second h k
appends_then before mid after first second (Err e) h k = k
