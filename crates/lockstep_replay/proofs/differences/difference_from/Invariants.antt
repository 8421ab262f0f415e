use Rattle.std.proofs.Common.{◌≡◌, ◌+◌, ◌<◌, ◌^◌, length}
use Rattle.lockstep_replay.specs.Differences.{byte_difference}
use Rattle.lockstep_replay.proofs.differences.difference_from.Given as goal

abbrev pub decreases-loop-rest : goal.decreases-loop-rest
decreases-loop-rest l = length l.rest

abbrev pub invariant-loop-rest : goal.invariant-loop-rest
invariant-loop-rest l = record {
  same : byte_difference l.index l.rest l.others ≡ byte_difference l.fn.index l.real l.replay;
  few : l.index + length l.rest < 2 ^ 32;
}
