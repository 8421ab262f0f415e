-- What a turn looks at that may differ: code, and base registers of ranges.
use Rattle.std.specs.Prelude.{ℕ, ◌+◌, ◌==◌, ◌&&◌, List, ◌∷◌, Option, Some, None, if◌then◌else◌}
use Rattle.flow_base.specs.declared.points.Point.{Point}
use Rattle.rv32im_machine.specs.declared.language.Seen.{Seen}
use Rattle.rv32im_machine.specs.declared.language.Seen.TheVariants.{Word, Base}
use Rattle.rv32im_machine.specs.Language.{Walk, Looked, Passed, Moved, Saved, Restored, Ended, first_of}
use Rattle.run_labels.specs.Masks.{byte_mask, answers_after, moved_label}
use Rattle.run_labels.specs.TurnLabels.{TurnLabels, put_label, save_labels, restore_labels}
use Rattle.masked_turns.specs.declared.uses.SecretLook.{SecretLook}
use Rattle.masked_turns.specs.declared.uses.SecretLook.TheVariants.{Code, BaseRegister}
use Rattle.masked_turns.specs.Clearing.{Cutting, labels_passed}

-- a look at the word at an address, or at a base register in the entry of the region with this number
abbrev pub look_at : ℕ → TurnLabels → Seen → Option SecretLook
look_at region labels (Word address) =
    if (byte_mask labels address == 0) && ((byte_mask labels (address + 1) == 0)
    && ((byte_mask labels (address + 2) == 0) && (byte_mask labels (address + 3) == 0)))
    then None else Some (Code address)
look_at region labels (Base register) =
    if (labels.map.registers register).mask == 0 then None else Some (BaseRegister region register)

abbrev pub first_look : Option SecretLook → Option SecretLook → Option SecretLook
first_look None later = later
first_look (Some look) later = Some look

-- the first look of a turn, in which every value goes on as it is, at what may differ
unfoldable pub looked_in : ℕ → Cutting → List Point → TurnLabels → List ℕ → Walk → Option SecretLook
looked_in region cutting past labels answers (Looked seen value walk) =
    first_look (look_at region labels seen) (looked_in region cutting past labels answers walk)
looked_in region cutting past labels answers (Passed passing go) =
    looked_in region cutting (passing.point ∷ past) (labels_passed cutting past labels (first_of answers) passing)
    (answers_after passing.work answers) (go passing.value)
looked_in region cutting past labels answers (Moved place shape source value walk) =
    looked_in region cutting past (put_label place (moved_label labels shape source) labels) answers walk
looked_in region cutting past labels answers (Saved walk) =
    looked_in region cutting past (save_labels labels) answers walk
looked_in region cutting past labels answers (Restored registers walk replayed) =
    looked_in region cutting past (restore_labels registers labels) answers walk
looked_in region cutting past labels answers (Ended state) = None
