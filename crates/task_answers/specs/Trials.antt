-- A trial of the tool by a number: the guest of the number is measured, and judged by its own cut.
use Rattle.std.specs.Prelude.{◌≡◌, ℕ, List, [], ◌++◌, codes, length}
use Rattle.std.specs.Fmt.{decimal}
use Rattle.cut_file.specs.Pictures.{cut_picture}
use Rattle.lockstep_replay.specs.Tasks.{Cross}
use Rattle.measuring.specs.declared.measured.Measured.{Measured}
use Rattle.trial_guests.specs.Programs.{picture_of_number}
use Rattle.trial_guests.specs.Secrets.{secret_of}
use Rattle.command_tasks.specs.Guests.{Guest}
use Rattle.command_tasks.specs.Tasks.{RunTask}
use Rattle.task_answers.specs.Replies.{Answer, done_by}
use Rattle.task_answers.specs.Checks.{judged_by}

-- the number of turns within which the guest exits
abbrev pub trial_turns : ℕ
trial_turns = 1000000

-- the guest of the number, without public input and regions
abbrev pub guest_of_number : ℕ → Guest
guest_of_number number = record { program = picture_of_number number; public_input = []; regions = [] }

-- its run on the secret of the number, by the mask rules of table 1
abbrev pub run_of_number : ℕ → RunTask
run_of_number number = record {
  guest = guest_of_number number;
  secret = secret_of number;
  settings = record { turns = trial_turns; table = 1 };
}

-- how many bits cross the cut of the measured run
abbrev pub crossing_count : ℕ → Measured → ℕ
crossing_count number measured =
    length (Cross (judged_by (guest_of_number number) (cut_picture measured.cut)) (secret_of number) trial_turns)

-- the length of the secret, the maximum flow and the number of points of the graph
abbrev pub trial_head : ℕ → Measured → List ℕ
trial_head number measured =
    codes "trial " ++ (decimal number ++ (codes " secret " ++ (decimal (length (secret_of number))
    ++ (codes " bits " ++ (decimal measured.value ++ (codes " points " ++ (decimal (length measured.graph.points)
    ++ codes " ")))))))

-- how large cut, run, crossing string and output are
abbrev pub trial_tail : Measured → ℕ → List ℕ
trial_tail measured crossing =
    codes "cut " ++ (decimal (length measured.cut.points) ++ (codes " turns " ++ (decimal measured.turns
    ++ (codes " crossing " ++ (decimal crossing ++ (codes " output " ++ (decimal (length measured.output.bytes)
    ++ codes "\n")))))))

abbrev pub trial_line : ℕ → Measured → ℕ → List ℕ
trial_line number measured crossing = trial_head number measured ++ trial_tail measured crossing

-- There is no answer for a rejection: the secret is accepted with the cut that is measured.
abbrev pub TellsTrial : ℕ → Measured → Answer → Type 0
TellsTrial number measured answer = answer ≡ done_by (trial_line number measured (crossing_count number measured))
