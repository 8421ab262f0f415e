-- What a lent task stands for.
use Rattle.elf32_loader.specs.Images.{image_picture}
use Rattle.cut_file.specs.Pictures.{cut_picture}
use Rattle.lockstep_replay.specs.declared.lent_tasks.LentTask.{LentTask}
use Rattle.lockstep_replay.specs.Tasks.{Task, Limits, task_of}

abbrev pub task_in : LentTask → Task
task_in lent =
    task_of (image_picture lent.image.now) lent.public.now lent.regions.now.items (cut_picture lent.cut.now)

abbrev pub limits_in : LentTask → Limits
limits_in lent = record { budget = lent.budget; turns = lent.turns }
