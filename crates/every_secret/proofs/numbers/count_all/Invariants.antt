use Rattle.std.proofs.Common.{◌≡◌, ◌+◌, ◌*◌, ◌≤◌, length}
use Rattle.every_secret.specs.Bounds.{free_count}
use Rattle.every_secret.proofs.numbers.count_all.Given as goal

abbrev pub invariant-loop-rest : goal.invariant-loop-rest
invariant-loop-rest l = record {
  whole : l.count + free_count l.rest ≡ free_count l.masks;
  few : l.count + 32 * length l.rest ≤ 32 * length l.masks;
}

abbrev pub decreases-loop-rest : goal.decreases-loop-rest
decreases-loop-rest l = length l.rest
