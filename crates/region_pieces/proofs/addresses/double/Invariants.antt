use Rattle.std.proofs.Common.{◌≤◌, vec_len}
use Rattle.region_pieces.proofs.addresses.double.Given as goal

abbrev pub invariant-loop-at : goal.invariant-loop-at
invariant-loop-at l = l.at-end ≤ vec_len l.words
