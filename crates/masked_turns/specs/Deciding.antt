-- What a turn decides by bits that may differ and have not crossed.
use Rattle.std.specs.Prelude.{ℕ, ◌==◌, List, ◌∷◌, Option, Some, None, if◌then◌else◌}
use Rattle.flow_base.specs.declared.points.Point.{Point}
use Rattle.rv32im_machine.specs.declared.language.Aim.{Aim}
use Rattle.rv32im_machine.specs.declared.language.Aim.TheVariants.{Put, Decide, Give}
use Rattle.rv32im_machine.specs.Language.{Walk, Looked, Passed, Moved, Saved, Restored, Ended, first_of}
use Rattle.run_labels.specs.Masks.{answers_after, moved_label}
use Rattle.run_labels.specs.TurnLabels.{TurnLabels, put_label, save_labels, restore_labels}
use Rattle.masked_turns.specs.declared.uses.LeftBits.{LeftBits}
use Rattle.masked_turns.specs.Clearing.{Cutting, crossing_at, left_mask, labels_passed}

-- on a decision the rest of the turn depends
abbrev pub left_at : Aim → Point → ℕ → Option LeftBits
left_at (Put place) point mask = None
left_at Decide point mask = if mask == 0 then None else Some (record { point = point; mask = mask })
left_at (Give place) point mask = None

abbrev pub first_left : Option LeftBits → Option LeftBits → Option LeftBits
first_left None later = later
first_left (Some left) later = Some left

-- the first decision, in a turn in which every value goes on as it is, whose mask is not 0 after bits have crossed
unfoldable pub left_in : Cutting → List Point → TurnLabels → List ℕ → Walk → Option LeftBits
left_in cutting past labels answers (Looked seen value walk) = left_in cutting past labels answers walk
left_in cutting past labels answers (Passed passing go) =
    first_left
    (left_at passing.aim passing.point
    (left_mask cutting.skipped (crossing_at cutting past passing) labels (first_of answers) passing))
    (left_in cutting (passing.point ∷ past) (labels_passed cutting past labels (first_of answers) passing)
    (answers_after passing.work answers) (go passing.value))
left_in cutting past labels answers (Moved place shape source value walk) =
    left_in cutting past (put_label place (moved_label labels shape source) labels) answers walk
left_in cutting past labels answers (Saved walk) = left_in cutting past (save_labels labels) answers walk
left_in cutting past labels answers (Restored registers walk replayed) =
    left_in cutting past (restore_labels registers labels) answers walk
left_in cutting past labels answers (Ended state) = None
