use Rattle.std.proofs.Common.{◌≡◌, length}
use Rattle.max_flow.specs.Private.Sides.{marks}
use Rattle.max_flow.specs.Private.Sides.{found_marks}
use Rattle.max_flow.proofs.sides.found_halves.Given as goal

abbrev pub invariant-loop-i : goal.invariant-loop-i
invariant-loop-i l = record {
  count : length l.halves ≡ l.i;
  marks : marks l.halves ≡ found_marks l.places l.i;
}
