use Rattle.piece_cells.proofs.Decisions.{keeps_result, keeps_decision}
use Rattle.piece_cells.proofs.computing.answered_mask.Goals as goal

pub returns-in-Result : goal.returns-in-Result
returns-in-Result g c =
    keeps_result c.args.operation c.in-Result.kind _ c.args.operands c.mask.result c.in-Result.is c.class_of_operation.ensures
    c.mask.ensures.sound

pub returns-in-Decision : goal.returns-in-Decision
returns-in-Decision g c =
    keeps_decision c.args.operation c.in-Decision.kind _ c.args.operands _ c.in-Decision.is c.class_of_branch.ensures
    c.mask-in-Decision.ensures.sound
