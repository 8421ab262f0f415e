use Rattle.std.proofs.Common.{arith}
use Rattle.elf32_loader.proofs.searching.second_of_overlap.Goals as goal

pub loop-second-init : goal.loop-second-init
loop-second-init c = λ k below over. omega (arith, over.0)

pub returns : goal.returns
returns c = λ second over. c.loop-second.invariant second (omega (arith, over.2.0)) over
