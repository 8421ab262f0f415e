-- The lines of events and of what turns answer. Numbers are decimal; an address, a word or a mask is 0x and eight digits
-- in lower case.
use Rattle.std.specs.Prelude.{ℕ, List, ◌++◌, codes}
use Rattle.std.specs.Fmt.{decimal}
use Rattle.flow_base.specs.HexWords.{hex_word}
use Rattle.flow_base.specs.Points.{point_text}
use Rattle.flow_graph.specs.declared.events.Event.{Event}
use Rattle.flow_graph.specs.declared.events.Event.TheVariants.{Pass, Link, FromSecret, Implicit, Out}
use Rattle.run_labels.specs.Faults.{run_fault_text}
use Rattle.tracked_run.specs.declared.outcomes.TrackedTurn.{TrackedTurn}
use Rattle.tracked_run.specs.declared.outcomes.TrackedTurn.TheVariants.{Ran, Exited, Refused}

abbrev pub event_text : Event → List ℕ
event_text (Pass point mask) = codes "pass " ++ (point_text point ++ (codes " " ++ hex_word mask))
event_text (Link source target) = codes "link " ++ (point_text source ++ (codes " to " ++ point_text target))
event_text (FromSecret point) = codes "secret to " ++ point_text point
event_text (Implicit point region) = codes "implicit " ++ (point_text point ++ (codes " to " ++ decimal region))
event_text (Out region point) = codes "out " ++ (decimal region ++ (codes " to " ++ point_text point))

abbrev pub answer_text : TrackedTurn → List ℕ
answer_text Ran = codes "ran"
answer_text (Exited status) = codes "exited " ++ decimal status
answer_text (Refused fault) = codes "refused " ++ run_fault_text fault
