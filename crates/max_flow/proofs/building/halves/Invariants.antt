use Rattle.std.proofs.Common.{◌≡◌}
use Rattle.max_flow.specs.Private.GraphNetworks.{halves_from}
use Rattle.max_flow.proofs.building.halves.Given as goal

abbrev pub invariant-loop-i : goal.invariant-loop-i
invariant-loop-i l = l.numbers ≡ halves_from l.start l.i
