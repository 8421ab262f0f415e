use Rattle.std.proofs.Common.{◌≡◌, None}
use Rattle.elf32_loader.specs.Images.{image_picture}
use Rattle.region_machine.specs.Starts.{guest}
use Rattle.run_labels.specs.Runs.{unlabelled}
use Rattle.measuring.specs.Following.{StandsAfter}
use Rattle.measuring.proofs.following.follow_in.Given as goal

abbrev pub invariant-loop-made : goal.invariant-loop-made
invariant-loop-made g l = record {
  unspent : l.tracked.spent ≡ None;
  regions : l.tracked.marked.regions.items ≡ l.setup.regions.now.items;
  table : l.tracked.book.now.table ≡ l.setup.book.now.table;
  follows : StandsAfter l.setup.book.now.table l.setup.regions.now.items
      (unlabelled (guest (image_picture l.setup.image.now) l.setup.public.now l.secret)) l.made l.tracked.machine
      l.tracked.shadow l.recording;
}
