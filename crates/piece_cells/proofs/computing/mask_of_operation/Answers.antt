use Rattle.std.proofs.Common.{ap}
use Rattle.std.specs.Int.{bit_at}
use Rattle.rv32im_machine.specs.Language.{computed}
use Rattle.transfer_rules.proofs.Agreement.{same_result}
use Rattle.piece_cells.proofs.computing.mask_of_operation.Goals as goal

pub returns-then-first-second-eq0 : goal.returns-then-first-second-eq0
returns-then-first-second-eq0 g c = λ one other p q h k i none.
    ap (λ x. bit_at x i) (same_result (computed c.args.operation) _ _ _ _ one other h k c.if-first-second-eq0.true)
