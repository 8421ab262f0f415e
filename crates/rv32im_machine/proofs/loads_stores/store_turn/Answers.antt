use Rattle.std.proofs.Common.{rules, w32}
use Rattle.std.proofs.lemmas.Int.{to_z-of_z}
use mir.Val.{SFits}
use Rattle.rv32im_machine.proofs.loads_stores.store_turn.Goals as goal

pub returns-clause-plays : goal.returns-clause-plays
returns-clause-plays g c =
    let fits : SFits w32 c.args.imm = search rules in
    rw (c.cast_unsigned.ensures, to_z-of_z w32 c.args.imm fits) at c.store_by.ensures.plays
