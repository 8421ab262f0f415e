use Rattle.std.proofs.Common.{◌≡◌, ◌+◌, ◌^◌, ◌≤◌, length, All}
use Rattle.every_secret.specs.Bounds.{output_count}
use Rattle.every_secret.specs.Private.Numbers.{sum_of_powers}
use Rattle.every_secret.proofs.numbers.all_free_bits.Given as goal

abbrev pub invariant-loop-rest : goal.invariant-loop-rest
invariant-loop-rest l = record {
  whole : sum_of_powers l.all.items + output_count l.rest ≡ output_count l.patterns;
  few : All (λ bits. bits ≤ 2 ^ 70) l.all.items;
}

abbrev pub decreases-loop-rest : goal.decreases-loop-rest
decreases-loop-rest l = length l.rest
