-- The headline of measured runs: each secret of them is accepted with the cut that is printed.
use Rattle.std.specs.Prelude.{◌≡◌, ℕ, ◌≤◌, List, length}
use Rattle.std.specs.List.{AllByRecursion}
use Rattle.cut_file.specs.Cuts.{CutPicture}
use Rattle.many_runs.specs.Accepting.{HasAccepted}
use Rattle.command_line.specs.CommandLines.{highest_budget}
use Rattle.command_tasks.specs.Guests.{Guest}
use Rattle.task_answers.specs.Checks.{judged_by}

-- Of the runs of a guest on secrets within so many turns, the value of their maximum flow, the cut that is printed and its
-- text: the number of the cut's line `bits` is that value; with the cut, and with this number as budget, a check accepts
-- each of the secrets within the same turns; the number is within the limit of a budget, and the text short enough for a
-- cut file.
pub record MeasuredHeadline (guest : Guest) (secrets : List (List ℕ)) (turns value : ℕ) (cut : CutPicture)
    (text : List ℕ) : Type 0 where
  pub bits : cut.bits ≡ value
  pub accepted : AllByRecursion (HasAccepted (judged_by guest cut) (record { budget = cut.bits; turns = turns })) secrets
  pub budget : cut.bits ≤ highest_budget
  pub short : length text ≤ 67108864
