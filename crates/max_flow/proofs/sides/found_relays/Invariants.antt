use Rattle.std.proofs.Common.{◌≡◌, ◌+◌, map, take}
use Rattle.max_flow.specs.Private.Searching.{is_found}
use Rattle.max_flow.proofs.sides.found_relays.Given as goal

abbrev pub invariant-loop-region : goal.invariant-loop-region
invariant-loop-region l = l.found ≡ map (λ region. is_found l.places (l.start + region)) (take l.region-index l.relays)
