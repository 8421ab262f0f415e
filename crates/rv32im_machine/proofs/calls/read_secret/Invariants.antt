use Rattle.std.proofs.Common.{◌≡◌, ◌+◌, ◌-◌}
use Rattle.rv32im_machine.specs.Language.{walk, none_held}
use Rattle.rv32im_machine.specs.Calls.{secret_reads}
use Rattle.rv32im_machine.specs.Playing.{Knows, Played}
use Rattle.rv32im_machine.proofs.calls.read_secret.Given as goal

abbrev pub invariant-loop-i : goal.invariant-loop-i
invariant-loop-i g l = record {
  setting : l.machine.setting ≡ l.fn.machine.setting;
  read : l.machine.control.secret_at ≡ l.fn.machine.control.secret_at + l.i;
  memory : Knows (g.P.Passer.memory l.passer) l.machine.setting.base;
  same : g.P.Passer.memory l.passer ≡ g.P.Passer.memory l.fn.passer;
  rest : (out : Played g.row.P-Stop.Denot g.P.Passer.Tape) →
      g.P.Passer.Plays l.passer (walk l.machine (secret_reads (l.count - l.i) (l.to + l.i) l.count l.machine.control) l.machine.store none_held) out →
      g.P.Passer.Plays l.fn.passer (walk l.fn.machine (secret_reads l.count l.to l.count l.fn.machine.control) l.fn.machine.store none_held) out;
}
