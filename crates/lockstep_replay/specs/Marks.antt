-- Where the two runs stand after a turn.
use Rattle.std.specs.Prelude.{ℕ, ◌==◌, ◌&&◌, length, Bool}
use Rattle.std.proofs.Math.Bool.{beq}
use Rattle.rv32im_machine.specs.State.{State}
use Rattle.replay_machine.specs.declared.marks.Mark.{Mark}
use Rattle.region_machine.specs.Runs.{has_exited}

-- the mark of a run in this state, of which so many bits have crossed so far, or which has used so many
abbrev pub mark_of : State → ℕ → Mark
mark_of state bits = record {
  address = state.control.pc;
  bits = bits;
  output = length state.control.output;
  exited = has_exited state.control.mode;
}

abbrev pub is_same_mark : Mark → Mark → Bool
is_same_mark first second =
    (first.address == second.address) && ((first.bits == second.bits)
    && ((first.output == second.output) && beq first.exited second.exited))
