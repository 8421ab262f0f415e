use Rattle.std.proofs.Common.{◌≡◌, take}
use Rattle.replay_machine.proofs.equality.are_same_runs.Given as goal

abbrev pub invariant-loop-index : goal.invariant-loop-index
invariant-loop-index l = take l.index l.left ≡ take l.index l.right
