use Rattle.std.proofs.Common.{◌≡◌, ◌+◌, ◌-◌}
use Rattle.rv32im_machine.specs.Language.{Turn, turn_walk}
use Rattle.rv32im_machine.specs.Playing.{Knows, Played}
use Rattle.region_machine.specs.Guests.{clears_bytes}
use Rattle.region_machine.specs.Within.{Stays}
use Rattle.region_machine.proofs.clearing.clear_bytes.Given as goal

abbrev pub invariant-loop-i : goal.invariant-loop-i
invariant-loop-i g l = record {
  stays : Stays l.fn.machine l.machine;
  memory : Knows (g.P.Passer.memory l.passer) l.machine.setting.base;
  same : g.P.Passer.memory l.passer ≡ g.P.Passer.memory l.fn.passer;
  rest : (turn : Turn) (out : Played g.row.P-Stop.Denot g.P.Passer.Tape) →
      g.P.Passer.Plays l.passer (turn_walk l.machine (clears_bytes (l.address + l.i) (l.count - l.i) turn)) out →
      g.P.Passer.Plays l.fn.passer (turn_walk l.fn.machine (clears_bytes l.address l.count turn)) out;
}
