-- What one visit leaves of what a walk holds.
use Rattle.std.specs.Prelude.{◌≡◌, ◌≤◌, ℕ, List, ◌∷◌, drop, take}
use Rattle.flow_base.specs.declared.points.Point.{Point}
use Rattle.flow_base.specs.Words.{patched}
use Rattle.rv32im_machine.specs.declared.language.Passing.{Passing}
use Rattle.run_labels.specs.TurnLabels.{TurnLabels}
use Rattle.masked_turns.specs.Clearing.{Cutting}
use Rattle.masked_turns.specs.Deciding.{left_at}
use Rattle.every_secret.specs.declared.shown.Shown.{Shown}
use Rattle.every_secret.specs.declared.shown.Shown.TheVariants.{Nothing, WrittenByte, ExitStatus}
use Rattle.every_secret.specs.Masked.{unclear_by_left}
use Rattle.every_secret.specs.Rules.{Rules}
use Rattle.every_secret.specs.Shown.{asked_for, shown_at}
use Rattle.every_secret.specs.Private.Tapes.{Tape, Takes, knowledge_of}
use Rattle.every_secret.specs.Visits.{differing_at, known_after, left_of_mask}

-- the free bits of what is shown are at most 8
abbrev pub FitsShown : Shown → ℕ → Type 0
FitsShown Nothing free = Unit {0}
FitsShown WrittenByte free = free ≤ 255
FitsShown ExitStatus free = free ≤ 255

-- after a visit from which this value goes on
pub record IsVisited (rules : Rules) (cutting : Cutting) (past : List Point) (old : TurnLabels) (before : Tape)
    (passing : Passing) (value : ℕ) (new : TurnLabels) (after : Tape) : Type 0 where
  pub known : knowledge_of (passing.point ∷ past) new after
      ≡ known_after rules cutting (knowledge_of past old before) passing
  pub takes : Takes
      (asked_for (shown_at passing.point.slot) (differing_at rules cutting (knowledge_of past old before) passing))
      before.stream after.stream
  pub value_is : value ≡ patched passing.value (differing_at rules cutting (knowledge_of past old before) passing)
      (take (asked_for (shown_at passing.point.slot) (differing_at rules cutting (knowledge_of past old before) passing))
      (drop before.stream.taken after.stream.bits))
  pub unclear : after.unclear
      ≡ unclear_by_left (left_at passing.aim passing.point (left_of_mask rules cutting (knowledge_of past old before) passing))
