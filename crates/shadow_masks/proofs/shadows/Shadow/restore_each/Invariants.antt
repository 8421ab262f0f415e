use Rattle.std.proofs.Common.{drop}
use Rattle.shadow_masks.proofs.Steps.{RestoresRest}
use Rattle.shadow_masks.proofs.shadows.Shadow.restore_each.Given as goal

abbrev pub invariant-loop-register : goal.invariant-loop-register
invariant-loop-register l = RestoresRest l.registers (drop l.register-index l.registers) l.fn.self l.self
