use Rattle.std.proofs.Common.{◌≡◌, ◌<◌, All, length}
use Rattle.rv32im_machine.specs.State.{restored}
use Rattle.rv32im_machine.specs.Language.{with_store}
use Rattle.rv32im_machine.proofs.machines.Machine.restore.Given as goal

abbrev pub invariant-loop-rest : goal.invariant-loop-rest
invariant-loop-rest l = record {
  small : All (λ register. register < 32) l.rest;
  restored : with_store (restored l.rest l.self.store) l.self ≡ with_store (restored l.registers l.initial.self.store) l.initial.self;
}

abbrev pub decreases-loop-rest : goal.decreases-loop-rest
decreases-loop-rest l = length l.rest
