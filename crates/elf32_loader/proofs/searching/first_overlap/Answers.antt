use Rattle.std.proofs.Common.{arith, below_more}
use Rattle.elf32_loader.proofs.searching.first_overlap.Goals as goal

pub loop-first-preserved : goal.loop-first-preserved
loop-first-preserved c = below_more _ _ c.loop-first.invariant (λ found. c.in_default.ensures found.0 found.1)

pub returns : goal.returns
returns c = λ found. c.loop-first.invariant found.0 (omega (arith, found.2.1.0)) (found.1, found.2)
