-- What receivers of events stand for.
use Rattle.std.specs.Prelude.{ℕ, List, [], ◌∷◌, ◌++◌, ◌==◌, if◌then◌else◌}
use Rattle.flow_graph.specs.declared.events.Event.{Event}
use Rattle.flow_graph.specs.declared.events.Event.TheVariants.{Pass}
use Rattle.rv32im_machine.specs.declared.language.Passing.{Passing}
use Rattle.run_labels.specs.TurnLabels.{TurnLabels}
use Rattle.run_labels.specs.Flowing.{flow_events}

-- whatever a receiver stood for before, it now stands for that with these events at its end
abbrev pub Appends : (List Event → Type 0) → (List Event → Type 0) → List Event → Type 0
Appends before after added = (events : List Event) → before events → after (events ++ added)

-- the events of a passing of this mask
abbrev pub masked_events : TurnLabels → ℕ → Passing → List Event
masked_events labels mask passing =
    Pass passing.point mask ∷ (if mask == 0 then [] else flow_events labels passing)
