use Rattle.std.proofs.Common.{rules, w32}
use Rattle.std.proofs.lemmas.Int.{to_z-of_z}
use mir.Val.{SFits}
use Rattle.rv32im_machine.proofs.walker.instr_turn.Goals as goal

pub returns-in-Jalr-clause-plays : goal.returns-in-Jalr-clause-plays
returns-in-Jalr-clause-plays g c =
    let fits : SFits w32 c.in-Jalr.imm = search rules in
    rw c.in-Jalr.is (rw (to_z-of_z w32 c.in-Jalr.imm fits) at c.jump_register_turn.ensures.plays)

pub returns-in-Branch-clause-plays : goal.returns-in-Branch-clause-plays
returns-in-Branch-clause-plays g c =
    let fits : SFits w32 c.in-Branch.offset = search rules in
    rw c.in-Branch.is (rw (to_z-of_z w32 c.in-Branch.offset fits) at c.branch_turn.ensures.plays)

pub returns-in-Load-clause-plays : goal.returns-in-Load-clause-plays
returns-in-Load-clause-plays g c =
    let fits : SFits w32 c.in-Load.imm = search rules in
    rw c.in-Load.is (rw (to_z-of_z w32 c.in-Load.imm fits) at c.load_turn.ensures.plays)

pub returns-in-Store-clause-plays : goal.returns-in-Store-clause-plays
returns-in-Store-clause-plays g c =
    let fits : SFits w32 c.in-Store.imm = search rules in
    rw c.in-Store.is (rw (to_z-of_z w32 c.in-Store.imm fits) at c.store_turn.ensures.plays)
