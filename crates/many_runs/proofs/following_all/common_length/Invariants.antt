use Rattle.std.proofs.Common.{◌≡◌, take}
use Rattle.many_runs.specs.Measures.{HaveLength, first_length}
use Rattle.many_runs.proofs.following_all.common_length.Given as goal

abbrev pub invariant-loop-index : goal.invariant-loop-index
invariant-loop-index l = record {
  first_is : l.first ≡ first_length l.secrets;
  alike : HaveLength l.first (take l.index l.secrets);
}
