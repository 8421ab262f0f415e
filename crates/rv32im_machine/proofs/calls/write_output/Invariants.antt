use Rattle.std.proofs.Common.{◌≡◌, ◌+◌, ◌-◌, length}
use Rattle.rv32im_machine.specs.Language.{walk, none_held}
use Rattle.rv32im_machine.specs.Calls.{writes}
use Rattle.rv32im_machine.specs.Playing.{Knows, Played}
use Rattle.rv32im_machine.proofs.calls.write_output.Given as goal

abbrev pub invariant-loop-i : goal.invariant-loop-i
invariant-loop-i g l = record {
  setting : l.machine.setting ≡ l.fn.machine.setting;
  written : length l.machine.control.output ≡ length l.fn.machine.control.output + l.i;
  memory : Knows (g.P.Passer.memory l.passer) l.machine.setting.base;
  same : g.P.Passer.memory l.passer ≡ g.P.Passer.memory l.fn.passer;
  rest : (out : Played g.row.P-Stop.Denot g.P.Passer.Tape) →
      g.P.Passer.Plays l.passer (walk l.machine (writes (l.count - l.i) (l.from + l.i) l.count l.machine.control) l.machine.store none_held) out →
      g.P.Passer.Plays l.fn.passer (walk l.fn.machine (writes l.count l.from l.count l.fn.machine.control) l.fn.machine.store none_held) out;
}
