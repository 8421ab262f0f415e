-- What holds of a run with labels.
use Rattle.std.specs.Prelude.{◌≡◌, ℕ, List, ◌∷◌, length}
use Rattle.enclosure_regions.specs.declared.region_parts.Region.{Region}
use Rattle.region_machine.specs.Runs.{Real}
use Rattle.run_labels.specs.Answers.{IsSoundAnswer, IsTableAnswer}
use Rattle.run_labels.specs.Runs.{LabelledRun, enclosing, run_after, EachRunAnswer, IsUnrefused}

-- a run with labels stands where the real run does, whatever the rules answer
abbrev pub PlaceLaw : Type 0
PlaceLaw =
    (regions : List Region) (answers : List (List ℕ)) (start : LabelledRun) →
    (run_after regions answers start).place ≡ Real (enclosing regions) (length answers) start.place

-- of a run that no turn refuses, by sound answers that are those of a table, each beginning is so too
abbrev pub BeginningsLaw : Type 0
BeginningsLaw =
    (table : ℕ) (regions : List Region) (last : List ℕ) (answers : List (List ℕ)) (start : LabelledRun) →
    IsUnrefused regions (last ∷ answers) start → EachRunAnswer IsSoundAnswer regions (last ∷ answers) start →
    EachRunAnswer (IsTableAnswer table) regions (last ∷ answers) start →
    IsUnrefused regions answers start × EachRunAnswer IsSoundAnswer regions answers start
    × EachRunAnswer (IsTableAnswer table) regions answers start
