use Rattle.std.proofs.Common.{◌≡◌, ◌++◌, length, true}
use Rattle.std.specs.List.{list_all}
use Rattle.measuring.specs.Splits.{skipped}
use Rattle.flow_base.specs.Points.{is_region_number}
use Rattle.measuring.proofs.splitting.skipped_regions.Given as goal

abbrev pub invariant-loop-rest : goal.invariant-loop-rest
invariant-loop-rest l = record {
  skip : l.skip ++ skipped l.rest l.left ≡ skipped l.relays l.answers;
  valid : list_all is_region_number l.skip ≡ true;
}

abbrev pub decreases-loop-rest : goal.decreases-loop-rest
decreases-loop-rest l = length l.rest
