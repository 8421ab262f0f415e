use Rattle.std.specs.Prelude.{length}
use Rattle.std.specs.List.{AllByRecursion}
use Rattle.acceptance_law.specs.MeasuredLaws.{AreInputs}
use Rattle.elf32_loader.specs.Images.{image_picture}
use Rattle.many_runs.proofs.measuring_all.tell_all_inputs.Given as goal

abbrev pub invariant-loop-rest : goal.invariant-loop-rest
invariant-loop-rest l =
    AllByRecursion (AreInputs (image_picture l.image) l.public l.regions.items) l.rest →
    AllByRecursion (AreInputs (image_picture l.image) l.public l.regions.items) l.secrets

abbrev pub decreases-loop-rest : goal.decreases-loop-rest
decreases-loop-rest l = length l.rest
