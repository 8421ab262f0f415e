use Rattle.std.proofs.Common.{◌≡◌, map, take}
use Rattle.command_tasks.specs.Loading.{AreWithin}
use Rattle.command_tasks.specs.Wants.{want_of}
use Rattle.command_tasks.proofs.LoadSteps.{Gave}
use Rattle.command_tasks.proofs.loads.load_all.Given as goal

abbrev pub invariant-loop-want : goal.invariant-loop-want
invariant-loop-want g l = record {
  gave :
      Gave (g.F.Files.told l.initial.files) (map want_of (take l.want-index l.wants)) l.loaded (g.F.Files.told l.files);
  within : AreWithin (map want_of (take l.want-index l.wants)) l.loaded;
  faults : g.F.Files.faults l.files ≡ g.F.Files.faults l.initial.files;
}
