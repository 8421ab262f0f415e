use Rattle.std.proofs.Common.{◌≡◌, ◌++◌, drop}
use Rattle.std.specs.List.{filter}
use Rattle.flow_base.specs.Listed.{is_listed}
use Rattle.enclosure_regions.proofs.orders.those_in.Given as goal

abbrev pub invariant-loop-register : goal.invariant-loop-register
invariant-loop-register l = l.found ++ filter (λ register. is_listed l.registers register) (drop l.register-index l.all)
    ≡ filter (λ register. is_listed l.registers register) l.all
