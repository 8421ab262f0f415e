use Rattle.std.proofs.Common.{◌≤◌, arith}
use Rattle.max_flow.specs.Flows.{flow_value, side_capacity}
use Rattle.max_flow.proofs.NamedSides.{weak_duality}
use Rattle.max_flow.proofs.laws.equal_is_best.Goals as goal

pub returns : goal.returns
returns c graph points links halves relays flow side same = record {
  greatest = λ others more other.
      let below : flow_value graph others more ≤ side_capacity graph halves relays =
      weak_duality graph others more halves relays other side in
      omega (arith, below, same);
  smallest = λ others passed other.
      let below : flow_value graph points links ≤ side_capacity graph others passed =
      weak_duality graph points links others passed flow other in
      omega (arith, below, same);
}
