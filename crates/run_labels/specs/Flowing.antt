-- The events that a passing adds.
use Rattle.std.specs.Prelude.{ℕ, ◌+◌, ◌==◌, List, [], ◌∷◌, ◌++◌, if◌then◌else◌}
use Rattle.flow_base.specs.declared.points.Point.{Point}
use Rattle.flow_graph.specs.declared.events.Event.{Event}
use Rattle.flow_graph.specs.declared.events.Event.TheVariants.{Pass, Link, FromSecret, Implicit, Out}
use Rattle.rv32im_machine.specs.declared.language.Aim.{Aim}
use Rattle.rv32im_machine.specs.declared.language.Aim.TheVariants.{Put, Decide, Give}
use Rattle.rv32im_machine.specs.declared.language.Passing.{Passing}
use Rattle.rv32im_machine.specs.declared.language.Source.{Source}
use Rattle.rv32im_machine.specs.declared.language.Source.TheVariants.{At, Constant, Secret}
use Rattle.rv32im_machine.specs.declared.language.Sources.{Sources}
use Rattle.rv32im_machine.specs.declared.language.Sources.TheVariants.{One, Two, Byte as BytesOne, Half as BytesTwo, Word as BytesFour}
use Rattle.shadow_masks.specs.declared.labels.Label.{Label}
use Rattle.run_labels.specs.TurnLabels.{TurnLabels, label_at}
use Rattle.run_labels.specs.Masks.{mask_of}

-- ---- the events of a passing

-- bits flow from where they last passed; a label of mask 0 names no point
abbrev pub link_from : Label → Point → List Event
link_from label point = if label.mask == 0 then [] else Link label.point point ∷ []

abbrev pub source_events : TurnLabels → Point → Source → List Event
source_events labels point (At place) = link_from (label_at labels place) point
source_events labels point (Constant value) = []
source_events labels point (Secret index) = FromSecret point ∷ []

abbrev pub byte_events : TurnLabels → Point → ℕ → List Event
byte_events labels point address = link_from (labels.map.bytes address) point

-- one for each source, in their order; those of bytes by ascending address
abbrev pub sources_events : TurnLabels → Point → Sources → List Event
sources_events labels point (One source) = source_events labels point source
sources_events labels point (Two first second) =
    source_events labels point first ++ source_events labels point second
sources_events labels point (BytesOne address) = byte_events labels point address
sources_events labels point (BytesTwo address) =
    byte_events labels point address ++ byte_events labels point (address + 1)
sources_events labels point (BytesFour address) =
    byte_events labels point address ++ (byte_events labels point (address + 1)
    ++ (byte_events labels point (address + 2) ++ byte_events labels point (address + 3)))

-- on a decision the rest of the turn depends, so its bits flow to all that its region gives out; an output of a region
-- takes what flowed so
abbrev pub aim_events : Point → Aim → List Event
aim_events point (Put place) = []
aim_events point Decide = Implicit point point.region ∷ []
aim_events point (Give place) = Out point.region point ∷ []

abbrev pub flow_events : TurnLabels → Passing → List Event
flow_events labels passing =
    sources_events labels passing.point passing.sources ++ aim_events passing.point passing.aim

-- a passing of mask 0 is counted, and nothing flows there
abbrev pub passing_events : TurnLabels → ℕ → Passing → List Event
passing_events labels answer passing =
    Pass passing.point (mask_of labels answer passing)
    ∷ (if mask_of labels answer passing == 0 then [] else flow_events labels passing)
