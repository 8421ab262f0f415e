-- The run of which a declaration is learnt.
use Rattle.std.specs.Prelude.{ℕ, List, map}
use Rattle.elf32_loader.specs.Pictures.{Picture}
use Rattle.enclosure_regions.specs.declared.region_parts.Region.{Region}
use Rattle.region_machine.specs.Starts.{guest}
use Rattle.region_learn.specs.Written.{Run, bare}

-- the regions by their numbers and addresses alone; the start of the real run on a secret
abbrev pub run_of : Picture → List ℕ → List ℕ → List Region → ℕ → Run
run_of program public_input secret regions turns = record {
  regions = map bare regions;
  start = (guest program public_input secret).state;
  turns = turns;
}
