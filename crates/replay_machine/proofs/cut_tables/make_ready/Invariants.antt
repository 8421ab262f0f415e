use Rattle.std.proofs.Common.{◌≡◌, vec_len}
use Rattle.replay_machine.specs.Visits.{SameAhead}
use Rattle.replay_machine.specs.Tables.{all_ahead}
use Rattle.replay_machine.proofs.cut_tables.make_ready.Given as goal

abbrev pub invariant-loop-index : goal.invariant-loop-index
invariant-loop-index l = record {
  same : SameAhead (all_ahead l.points.items l.cursors.items) (all_ahead l.points.items l.initial.cursors.items);
  length : vec_len l.cursors ≡ vec_len l.points;
}
