use Rattle.std.proofs.Common.{◌≡◌, ◌+◌, ◌++◌, ◌≤◌}
use Rattle.std.specs.Vec.{vec_len, vec_capacity}
use Rattle.flow_base.specs.Words.{bit_count, bits_under}
use Rattle.crossing_bits.proofs.masks.push_bits.Given as goal

abbrev pub invariant-loop-mask : goal.invariant-loop-mask
invariant-loop-mask l = record {
  pushed : l.items.items ++ bits_under l.value l.mask ≡ l.initial.items.items ++ bits_under l.initial.value l.initial.mask;
  len : vec_len l.items + bit_count l.mask ≡ vec_len l.initial.items + bit_count l.initial.mask;
  room : vec_capacity l.initial.items ≤ vec_capacity l.items;
}

abbrev pub decreases-loop-mask : goal.decreases-loop-mask
decreases-loop-mask l = l.mask
