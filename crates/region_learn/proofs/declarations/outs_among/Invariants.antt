use Rattle.std.proofs.Common.{◌≡◌, ◌++◌, true, length, nat_lt}
use Rattle.std.specs.List.{filter, list_all}
use Rattle.region_learn.specs.Private.Declarations.{out_bit}
use Rattle.region_learn.proofs.declarations.outs_among.Given as goal

abbrev pub invariant-loop-rest : goal.invariant-loop-rest
invariant-loop-rest l = record {
  small : list_all (λ register. nat_lt register 32) l.rest ≡ true;
  same : l.found ++ filter (out_bit l.written l.changed) l.rest ≡ filter (out_bit l.written l.changed) l.all;
}

abbrev pub decreases-loop-rest : goal.decreases-loop-rest
decreases-loop-rest l = length l.rest
