-- The events of an output of a region that gives out again what it gave before.
use Rattle.std.specs.Prelude.{ℕ, List, [], ◌∷◌}
use Rattle.flow_base.specs.declared.points.Point.{Point}
use Rattle.flow_graph.specs.declared.events.Event.{Event}
use Rattle.flow_graph.specs.declared.events.Event.TheVariants.{Pass, Link, Out}

-- bits of the mask pass the point, they flowed there from the point itself, and its region gives them out
abbrev pub again_events : Point → ℕ → List Event
again_events point mask = Pass point mask ∷ Link point point ∷ Out point.region point ∷ []
