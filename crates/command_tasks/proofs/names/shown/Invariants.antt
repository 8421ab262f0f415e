use Rattle.std.proofs.Common.{◌≡◌, ◌-◌, ◌≤◌, ◌++◌, string_bytes, take, drop}
use Rattle.std.specs.Str.{IsCharBoundary}
use Rattle.command_tasks.specs.Names.{shown}
use Rattle.command_tasks.proofs.names.shown.Given as goal

abbrev pub invariant-loop-at : goal.invariant-loop-at
invariant-loop-at l = record {
  low : l.start ≤ l.at;
  bound : IsCharBoundary l.name l.start;
  text : string_bytes l.text ++ (take (l.at - l.start) (drop l.start l.name) ++ shown (drop l.at l.name)) ≡ shown l.name;
}
