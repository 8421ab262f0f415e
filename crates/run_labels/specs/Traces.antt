-- What a turn leaves of labels, events, looks and answers, where every value goes on as it is. By slot:
--
--   slot        its mask                                bits flow there from          and on to
--   u1, u2      that of the register                    the register                  an operand
--   ad          a rule's answer; of the target of       u1                            the way of the turn
--               JALR without the lowest bit
--   rs          a rule's answer; of a load the masks    u1 and u2; of a load the      the register
--               of the bytes, extended                  bytes that are read
--   de          a rule's answer, one bit of it          u1 and u2                     the way of the turn
--   nr, a0..a2  that of the register                    the register                  the way of the turn
--   in          255                                     the secret                    the byte
--   ou          that of the byte                        the byte                      the way of the turn
--   st          that of the lowest 8 bits of a0         the register                  the way of the turn
--   x1 to x31   all bits                                the register                  the register, out of the region
--   r0 to r63   255                                     the byte                      the byte, out of the region
--
-- Where bits flow from a register or a byte, they flow from the point where they last passed. What decides the way of a
-- turn flows to all that its region gives out, and outside of regions to all that can be seen of the run. A passing of
-- mask 0 is counted, and nothing flows there. Stores and answers of calls pass no slot: they move a label.
use Rattle.std.specs.Prelude.{ℕ, List, [], ◌++◌, Option, None}
use Rattle.std.specs.Option.{option_or}
use Rattle.flow_graph.specs.declared.events.Event.{Event}
use Rattle.rv32im_machine.specs.declared.language.Operation.{Operation}
use Rattle.rv32im_machine.specs.declared.language.Passing.{Passing}
use Rattle.rv32im_machine.specs.declared.language.Seen.{Seen}
use Rattle.rv32im_machine.specs.Language.{Walk, Looked, Passed, Moved, Saved, Restored, Ended, first_of}
use Rattle.shadow_masks.specs.Writes.{LabelMap}
use Rattle.transfer_rules.specs.declared.operands.Operands.{Operands}
use Rattle.run_labels.specs.declared.faults.MeasureFault.{MeasureFault}
use Rattle.run_labels.specs.TurnLabels.{TurnLabels, put_label, save_labels, restore_labels}
use Rattle.run_labels.specs.Masks.{masks_of, answers_after, labels_after, moved_label}
use Rattle.run_labels.specs.Flowing.{passing_events}
use Rattle.run_labels.specs.Looking.{look_fault}
use Rattle.run_labels.specs.Answers.{HoldsOfAnswer}

pub record Trace : Type 1 where
  -- the labels after the turn
  pub labels : LabelMap
  -- the events that it adds
  pub events : List Event
  -- its first look at what may depend on the secret, if it enters the region with this number
  pub look : ℕ → Option MeasureFault
  -- the fact holds of each answer that it takes
  pub Each : (Operation → Operands → ℕ → Type 0) → Type 0

-- a look, and then the rest of a turn
abbrev pub with_look : TurnLabels → Seen → Trace → Trace
with_look labels seen rest = record {
  labels = rest.labels;
  events = rest.events;
  look = λ region. option_or (look_fault region labels seen) (rest.look region);
  Each = rest.Each;
}

-- a passing, for which the rules' next answer is this, and then the rest of a turn
abbrev pub with_passing : TurnLabels → ℕ → Passing → Trace → Trace
with_passing labels answer passing rest = record {
  labels = rest.labels;
  events = passing_events labels answer passing ++ rest.events;
  look = rest.look;
  Each = λ Fact. HoldsOfAnswer Fact passing.work (masks_of labels passing.sources) answer × rest.Each Fact;
}

-- the trace of a turn that begins with these labels and takes these answers
unfoldable pub traced : TurnLabels → List ℕ → Walk → Trace
traced labels answers (Looked seen value walk) = with_look labels seen (traced labels answers walk)
traced labels answers (Passed passing go) =
    with_passing labels (first_of answers) passing
    (traced (labels_after labels (first_of answers) passing) (answers_after passing.work answers) (go passing.value))
traced labels answers (Moved place shape source value walk) =
    traced (put_label place (moved_label labels shape source) labels) answers walk
traced labels answers (Saved walk) = traced (save_labels labels) answers walk
traced labels answers (Restored registers walk replayed) = traced (restore_labels registers labels) answers walk
traced labels answers (Ended state) =
    record { labels = labels.map; events = []; look = λ region. None; Each = λ Fact. Unit {0} }

-- the parts of a trace, each by its own name

abbrev pub labels_in : TurnLabels → List ℕ → Walk → LabelMap
labels_in labels answers walk = (traced labels answers walk).labels

abbrev pub events_in : TurnLabels → List ℕ → Walk → List Event
events_in labels answers walk = (traced labels answers walk).events

abbrev pub secret_look : ℕ → TurnLabels → List ℕ → Walk → Option MeasureFault
secret_look region labels answers walk = (traced labels answers walk).look region

abbrev pub EachAnswer : (Operation → Operands → ℕ → Type 0) → TurnLabels → List ℕ → Walk → Type 0
EachAnswer Fact labels answers walk = (traced labels answers walk).Each Fact
