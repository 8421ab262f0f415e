use Rattle.std.proofs.Common.{Some, subst}
use Rattle.rv32im_machine.specs.Playing.{AreSources}
use Rattle.tracked_run.proofs.again.gives_again.Goals as goal

pub byte-label-requires : goal.byte-label-requires
byte-label-requires c =
    (subst (λ sources. AreSources (Some c.args.shadow.now.base) sources) c.in-Some-source_byte.ensures c.requires).1
