use Rattle.std.proofs.Common.{◌≡◌, ◌≤◌, length}
use Rattle.std.specs.Prelude.{max}
use Rattle.max_flow.specs.Private.GraphNetworks.{relay_room}
use Rattle.max_flow.proofs.building.relays_room.Given as goal

abbrev pub invariant-loop-rest : goal.invariant-loop-rest
invariant-loop-rest l = record {
  few : l.room ≤ 65536;
  room : max l.room (relay_room l.rest) ≡ relay_room l.relays;
}

abbrev pub decreases-loop-rest : goal.decreases-loop-rest
decreases-loop-rest l = length l.rest
